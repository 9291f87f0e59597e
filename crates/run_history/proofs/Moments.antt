-- What each line adds to the moments before it.
use Rattle.std.specs.Prelude.{ℕ, suc, ◌+◌, ◌≡◌, ◌++◌, ◌==◌, nat_lt, true, false, List, [], ◌∷◌, length, Option, None, Some, if◌then◌else◌}
use Rattle.std.specs.Option.{option_and_then}
use Rattle.std.proofs.Common.{refl, sym, ap, subst, ◌∙◌, arith}
use Rattle.std.proofs.lemmas.List.{append-nil, append_assoc, length-append}
use Rattle.schedule_text.specs.declared.event.Event.{Event}
use Rattle.schedule_text.specs.declared.line.Line.{Line}
use Rattle.status_report.specs.declared.entry.Entry.{Entry}
use Rattle.status_report.specs.declared.entry.Entry.TheVariants as entry
use Rattle.status_report.specs.declared.start_entry.StartEntry.{StartEntry}
use Rattle.status_report.specs.declared.start_entry.StartEntry.TheVariants as start_entry
use Rattle.history.specs.Deeds.{Acked, Deed, Proposed, Started, deeds, once_complete}
use Rattle.history.specs.Moment.{Moment, Part, Said, Told}
use Rattle.history.specs.Starts.{Start, StartLines, base_due, base_line, base_so_far, completed, start_so_far}
use Rattle.history.specs.Trace.{ack, base, propose, start}
use Rattle.run_history.specs.DeedLines.{Adds, Closed, IsAside, IsAsideStart, onto_bases}

pub nothing_added : (ms : List Moment) → Closed ms → Adds ms ms []
nothing_added ms h = record { closed = h; deeds = refl }

pub then_added : (first second third : List Moment) (some more : List Deed) → Adds first second some → Adds second third more → Adds first third (more ++ some)
then_added first second third some more h k =
    record { closed = k.closed; deeds = k.deeds ∙ (ap (λ ds. more ++ ds) h.deeds ∙ sym (append_assoc more some (deeds first))) }

-- ---- lines aside

aside_so : (before : List Moment) (x : Moment) → base_line x ≡ None → base_due (x ∷ before) ≡ None → deeds (x ∷ before) ≡ deeds before → Closed before → Adds before (x ∷ before) []
aside_so before x line due same h = record { closed = record { lines = (line ∙ sym h.due, h.lines); due = due }; deeds = same }

pub said_adds : (before : List Moment) (l : Line) → Closed before → Adds before (Said l ∷ before) []
said_adds before l h = aside_so before (Said l) refl refl refl h

pub part_adds : (before : List Moment) (e : Event) → Closed before → Adds before (Part e ∷ before) []
part_adds before e h = aside_so before (Part e) refl refl refl h

start_aside : (before : List Moment) (e : StartEntry) → IsAsideStart e → Closed before → Adds before (Told (entry.Start e) ∷ before) []
start_aside before (start_entry.Started e members held count) is h = absurd is
start_aside before (start_entry.Base e v words) is h = absurd is
start_aside before (start_entry.Adopted e n resource flags) is h = aside_so before (Told (entry.Start (start_entry.Adopted e n resource flags))) refl refl refl h

pub aside_adds : (before : List Moment) (e : Entry) → IsAside e → Closed before → Adds before (Told e ∷ before) []
aside_adds before (entry.Start e) is h = start_aside before e is h
aside_adds before (entry.Update e) is h = absurd is
aside_adds before (entry.Answered e) is h = aside_so before (Told (entry.Answered e)) refl refl refl h
aside_adds before entry.Powered is h = aside_so before (Told entry.Powered) refl refl refl h
aside_adds before (entry.Node n e) is h = aside_so before (Told (entry.Node n e)) refl refl refl h
aside_adds before (entry.Packet e) is h = aside_so before (Told (entry.Packet e)) refl refl refl h
aside_adds before (entry.Device e) is h = aside_so before (Told (entry.Device e)) refl refl refl h
aside_adds before (entry.Attempt e) is h = aside_so before (Told (entry.Attempt e)) refl refl refl h
aside_adds before (entry.Call e) is h = aside_so before (Told (entry.Call e)) refl refl refl h
aside_adds before (entry.Command e) is h = aside_so before (Told (entry.Command e)) refl refl refl h
aside_adds before (entry.Status e) is h = aside_so before (Told (entry.Status e)) refl refl refl h
aside_adds before (entry.Address e) is h = aside_so before (Told (entry.Address e)) refl refl refl h
aside_adds before (entry.Schedule e) is h = aside_so before (Told (entry.Schedule e)) refl refl refl h

-- ---- updates

pub propose_adds : (before : List Moment) (e v : ℕ) (words : List ℕ) → Closed before → Adds before (propose e v words ∷ before) (Proposed (record { epoch = e; place = v; words = words }) ∷ [])
propose_adds before e v words h = record { closed = record { lines = (sym h.due, h.lines); due = refl }; deeds = refl }

pub ack_adds : (before : List Moment) (e v : ℕ) (words : List ℕ) → Closed before → Adds before (ack e v words ∷ before) (Acked (record { epoch = e; place = v; words = words }) ∷ [])
ack_adds before e v words h = record { closed = record { lines = (sym h.due, h.lines); due = refl }; deeds = refl }

-- ---- a start with its base

-- these lines of the start s stand, after these deeds
record Under (ms : List Moment) (s : Start) (done : List (List ℕ)) (ds : List Deed) : Type 0 where
  pub lines : StartLines ms
  pub start : start_so_far ms ≡ Some s
  pub base : base_so_far ms ≡ done
  pub deeds : deeds ms ≡ once_complete (if length done == s.count then Some s else None) done ds

due_of : Option Start → List (List ℕ) → Option (ℕ × ℕ)
due_of o done = option_and_then (λ (s : Start). if nat_lt (length done) s.count then Some (s.epoch, length done + 1) else None) o

due_so : (ms : List Moment) (s : Start) (done : List (List ℕ)) → start_so_far ms ≡ Some s → base_so_far ms ≡ done
    → base_due ms ≡ (if nat_lt (length done) s.count then Some (s.epoch, length done + 1) else None)
unfolding due_of
due_so ms s done is at = ap (λ o. due_of o (base_so_far ms)) is ∙ ap (λ xs. due_of (Some s) xs) at

more_due : (k count rest : ℕ) → k + suc rest ≡ count → nat_lt k count ≡ true
more_due k count rest h = grind arith

not_whole : (k count rest : ℕ) → k + suc rest ≡ count → (k == count) ≡ false
not_whole k count rest h = grind arith

none_due : (k count : ℕ) → k ≡ count → nat_lt k count ≡ false
none_due k count h = grind arith

is_whole : (k count : ℕ) → k ≡ count → (k == count) ≡ true
is_whole k count h = grind arith

completed_so : (o : Option Start) (s : Start) (done : List (List ℕ)) → o ≡ Some s
    → option_and_then (λ (r : Start). if length done == r.count then Some r else None) o ≡ (if length done == s.count then Some s else None)
completed_so o s done is = ap (λ p. option_and_then (λ (r : Start). if length done == r.count then Some r else None) p) is

one_base : (ms : List Moment) (s : Start) (done : List (List ℕ)) (ds : List Deed) (text : List ℕ) (rest : ℕ) → length done + suc rest ≡ s.count → Under ms s done ds
    → Under (base s.epoch (length done + 1) text ∷ ms) s (done ++ text ∷ []) ds
one_base ms s done ds text rest many h =
    let due : base_due ms ≡ Some (s.epoch, length done + 1) =
    due_so ms s done h.start h.base ∙ ap (λ b. if b then Some (s.epoch, length done + 1) else None) (more_due (length done) s.count rest many) in
    let before : deeds ms ≡ ds = h.deeds ∙ ap (λ b. once_complete (if b then Some s else None) done ds) (not_whole (length done) s.count rest many) in
    let base_is : base_so_far ms ++ text ∷ [] ≡ done ++ text ∷ [] = ap (λ xs. xs ++ text ∷ []) h.base in
    record {
      lines = (sym due, h.lines);
      start = h.start;
      base = base_is;
      deeds = ap (λ ds. once_complete (completed (base s.epoch (length done + 1) text ∷ ms)) (base_so_far ms ++ text ∷ []) ds) before
          ∙ (ap (λ xs. once_complete (option_and_then (λ (r : Start). if length xs == r.count then Some r else None) (start_so_far ms)) xs ds) base_is
          ∙ ap (λ o. once_complete o (done ++ text ∷ []) ds) (completed_so (start_so_far ms) s (done ++ text ∷ []) h.start));
    }

all_bases : (ms : List Moment) (s : Start) (done texts : List (List ℕ)) (ds : List Deed) (k : ℕ) → k ≡ length done → length done + length texts ≡ s.count → Under ms s done ds
    → Under (onto_bases s.epoch k texts ms) s (done ++ texts) ds
all_bases ms s done [] ds k at many h = subst (λ xs. Under ms s xs ds) (sym (append-nil done)) h
all_bases ms s done (text ∷ texts) ds k at many h =
    let next : Under (base s.epoch (length done + 1) text ∷ ms) s (done ++ text ∷ []) ds = one_base ms s done ds text (length texts) many h in
    let longer : length (done ++ text ∷ []) ≡ length done + 1 = length-append done (text ∷ []) in
    subst (λ xs. Under (onto_bases s.epoch (k + 1) texts (base s.epoch (k + 1) text ∷ ms)) s xs ds) (append_assoc done (text ∷ []) texts)
    (all_bases (base s.epoch (k + 1) text ∷ ms) s (done ++ text ∷ []) texts ds (k + 1) (omega (arith, at, longer)) (omega (arith, many, longer))
    (subst (λ j. Under (base s.epoch (j + 1) text ∷ ms) s (done ++ text ∷ []) ds) (sym at) next))

pub start_adds : (before : List Moment) (e members held : ℕ) (texts : List (List ℕ)) → Closed before
    → Adds before (onto_bases e 0 texts (start e members held (length texts) ∷ before)) (Started (record { epoch = e; members = members; held = held; count = length texts }) texts ∷ [])
start_adds before e members held texts h =
    let s : Start = record { epoch = e; members = members; held = held; count = length texts } in
    let first : Under (start e members held (length texts) ∷ before) s [] (deeds before) = record { lines = (sym h.due, h.lines); start = refl; base = refl; deeds = refl } in
    let last : Under (onto_bases e 0 texts (start e members held (length texts) ∷ before)) s texts (deeds before) =
    all_bases (start e members held (length texts) ∷ before) s [] texts (deeds before) 0 refl (omega arith) first in
    record {
      closed = record {
        lines = last.lines;
        due = due_so (onto_bases e 0 texts (start e members held (length texts) ∷ before)) s texts last.start last.base
            ∙ ap (λ b. if b then Some (e, length texts + 1) else None) (none_due (length texts) (length texts) refl);
      };
      deeds = last.deeds ∙ ap (λ b. once_complete (if b then Some s else None) texts (deeds before)) (is_whole (length texts) (length texts) refl);
    }
