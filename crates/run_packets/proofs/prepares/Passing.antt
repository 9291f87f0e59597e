-- What a node gives becomes entries of its own, in which its proposals have their Prepares.
use Rattle.std.specs.Prelude.{ℕ, ◌≡◌, ◌++◌, ◌==◌, ◌&&◌, ◌||◌, ◌^◌, nat_le, nat_lt, length, Bool, true, false, List, [], ◌∷◌, Option, None, Some}
use Rattle.std.specs.List.{AllByRecursion, list_any}
use Rattle.std.proofs.Common.{refl, ap, sym, subst, ◌∙◌, inl, inr}
use Rattle.std.proofs.lemmas.List.Folds.{list_any-append}
use Rattle.attempt_laws.proofs.Walk.{if_with}
use Rattle.cl_base.specs.declared.packet.DropCause.{DropCause}
use Rattle.cmm_attempt.proofs.Basics.{false_true}
use Rattle.history.specs.Messages.{is_down_of, onto, sends_or_falls}
use Rattle.history.specs.Letters.{sends}
use Rattle.history.specs.Moment.{Moment, Told}
use Rattle.history.specs.Names as name
use Rattle.history.specs.Names.{Name, kind_of, named, number_of, same_name, same_number as same_number_of}
use Rattle.cl_base.specs.Kinds.{kind_byte}
use Rattle.history.specs.Setting.{coordinator}
use Rattle.interconnect.specs.Links as net
use Rattle.interconnect.specs.Links.{sending}
use Rattle.node_model.specs.declared.output.Output.{Output}
use Rattle.node_model.specs.declared.output.Output.TheVariants.{Sends, Tells}
use Rattle.run_history.proofs.Lists.{both}
use Rattle.run_history.specs.Scenes.{Scene, dropped_so, passing, posting, sent_as, telling, with_links}
use Rattle.run_lines.specs.Entries.{GivesEntry}
use Rattle.status_report.specs.declared.entry.Entry.{Entry}
use Rattle.status_report.specs.declared.entry.Entry.TheVariants as entry
use Rattle.status_report.specs.declared.node_entry.NodeEntry.TheVariants as note
use Rattle.status_report.specs.declared.packet_entry.PacketEntry.TheVariants as packet
use Rattle.status_report.specs.declared.update_entry.UpdateEntry.TheVariants as update
use Rattle.wire.specs.Spelling.{spelling}
use Rattle.wire.specs.declared.message.Body.{Body}
use Rattle.wire.specs.declared.message.Body.TheVariants as body
use Rattle.wire.specs.declared.message.Message.{Message}
use Rattle.world_model.specs.Sends.{is_sent, name_of}
use Rattle.run_packets.proofs.prepares.Lines.{own_epoch, same_number}
use Rattle.run_packets.proofs.prepares.Numbers.{left_before, passing_next}
use Rattle.run_packets.specs.prepares.Events.{EntriesOf, EntryOf, IsLeft}
use Rattle.run_packets.specs.prepares.Proposals.{AreAnnounced, AreSo, IsAnnounced, IsBehind, IsShort, IsSo, SendsOrFalls}

-- ---- tests of entries

or_first : (a b : Bool) → a ≡ true → (a || b) ≡ true
or_first true b h = refl
or_first false b h = absurd (false_true h)

or_later : (a b : Bool) → b ≡ true → (a || b) ≡ true
or_later true b h = refl
or_later false b h = h

both_true : (a b : Bool) → a ≡ true → b ≡ true → (a && b) ≡ true
both_true true b h k = k
both_true false b h k = absurd (false_true h)

any_more : (test : Moment → Bool) (xs ys : List Moment) → list_any test xs ≡ true → list_any test (xs ++ ys) ≡ true
any_more test xs ys h = list_any-append test xs ys ∙ or_first (list_any test xs) (list_any test ys) h

any_behind : (test : Moment → Bool) (xs ys : List Moment) → list_any test ys ≡ true → list_any test (xs ++ ys) ≡ true
any_behind test xs ys h = list_any-append test xs ys ∙ or_later (list_any test xs) (list_any test ys) h

-- n sends the message to m there, or goes down
abbrev Does : ℕ → ℕ → Name → Moment → Bool
Does n m called x = sends n m called x || is_down_of n x

-- ---- more entries

announced_more : (before : List Moment) (x : Moment) (xs ys : List Moment) → IsAnnounced before x xs → IsAnnounced before x (xs ++ ys)
announced_more before (Told (entry.Update (update.Proposed e v words))) xs ys h = λ m other. any_more (Does (coordinator e) m (name.Prepare v)) xs ys (h m other)
announced_more before _ xs ys h = tt

pub announced_both : (before xs ys : List Moment) → AreAnnounced before xs → AreAnnounced before ys → AreAnnounced before (xs ++ ys)
announced_both before [] ys h k = k
announced_both before (x ∷ xs) ys h k = (announced_more before x xs ys h.0, announced_both before xs ys h.1 k)

pub onto_both : (ms xs ys : List Moment) → onto ms (xs ++ ys) ≡ onto (onto ms xs) ys
onto_both ms [] ys = refl
onto_both ms (x ∷ xs) ys = onto_both (x ∷ ms) xs ys

-- ---- one message

record Posted (before : List Moment) (n to : ℕ) (b : Body) (s t : Scene) : Type 0 where
  entries : List Moment
  own : EntriesOf n entries
  is : onto s.moments entries ≡ t.moments
  said : IsShort n b → IsLeft s.links.next → sends_or_falls n to (named (name_of b)) entries ≡ true
  announced : AreAnnounced before entries

same_option : (o : Option ℕ) → same_number_of o o ≡ true
same_option None = refl
same_option (Some k) = same_number k

same_names : (called : Name) → same_name called called ≡ true
same_names called = both_true (kind_byte (kind_of called) == kind_byte (kind_of called)) (same_number_of (number_of called) (number_of called)) (same_number (kind_byte (kind_of called))) (same_option (number_of called))

same_called : (n to : ℕ) (called : Name) → ((n == n) && (to == to) && same_name called called) ≡ true
same_called n to called = all_true (n == n) (to == to) (same_name called called) (same_number n) (same_number to) (same_names called)
  where
    all_true : (a b c : Bool) → a ≡ true → b ≡ true → c ≡ true → (a && b && c) ≡ true
    all_true true true c h k l = l
    all_true true false c h k l = absurd (false_true k)
    all_true false b c h k l = absurd (false_true h)

dropped_posted : (before : List Moment) (n to : ℕ) (b : Body) (s t : Scene) (e : Entry) (o : Option (ℕ × DropCause)) → t.moments ≡ Told e ∷ s.moments → EntryOf n (Told e) → IsAnnounced before (Told e) []
    → ((later : List Moment) → IsAnnounced before (Told e) later) → Does n to (named (name_of b)) (Told e) ≡ true → Posted before n to b s (dropped_so o t)
dropped_posted before n to b s t e None is own none all does = record {
  entries = Told e ∷ [];
  own = (own, tt);
  is = sym is;
  said = λ short left. or_first (Does n to (named (name_of b)) (Told e)) false does;
  announced = (none, tt);
}
dropped_posted before n to b s t e (Some x) is own none all does =
    let d : Moment = Told (entry.Packet (packet.Dropped x.0 x.1)) in
    record {
      entries = Told e ∷ d ∷ [];
      own = (own, ((tt, refl), tt));
      is = ap (λ ms. d ∷ ms) (sym is);
      said = λ short left. or_first (Does n to (named (name_of b)) (Told e)) (list_any (Does n to (named (name_of b))) (d ∷ [])) does;
      announced = (all (d ∷ []), (tt, tt));
    }

posted : (before : List Moment) (n to : ℕ) (b : Body) (s : Scene) → Posted before n to b s (posting n to (record { sender = n; body = b }) s)
posted before n to b s =
    let m : Message = record { sender = n; body = b } in
    let o : net.Outcome = sending s.links n to (spelling m) in
    let e : Entry = entry.Packet (packet.Sent s.links.next n to (name_of b) (spelling m)) in
    if_with (λ (t : Scene). Posted before n to b s t) (is_sent s.links m) (is_sent s.links m) (sent_as n to m o s) s refl
    (λ goes. dropped_posted before n to b s (telling e (with_links s o.after)) e o.sent.dropped refl (tt, same_number n) tt (λ later. tt)
    (or_first (sends n to (named (name_of b)) (Told e)) (is_down_of n (Told e)) (same_called n to (named (name_of b)))))
    (λ stays. record {
      entries = [];
      own = tt;
      is = refl;
      said = λ short left. absurd (false_true (sym stays ∙ both_true (nat_le (length (spelling m)) 131072) (nat_lt s.links.next (2 ^ 63)) short left));
      announced = tt;
    })

-- ---- all that it gives

pub record Passed (before : List Moment) (n : ℕ) (os : List Output) (s t : Scene) : Type 0 where
  pub entries : List Moment
  pub own : EntriesOf n entries
  pub is : onto s.moments entries ≡ t.moments
  pub said : (m : ℕ) (b : Body) → IsBehind n m b os → IsShort n b → IsLeft t.links.next → sends_or_falls n m (named (name_of b)) entries ≡ true
  pub announced : IsLeft t.links.next → AreAnnounced before entries

falls_so : (n m : ℕ) (b : Body) (called : Name) (e : Entry) → SendsOrFalls n m b (Tells e) → Does n m called (Told e) ≡ true
falls_so n m b called (entry.Node k (note.Down why)) is = ap (λ z. z == n) is ∙ same_number n
falls_so n m b called _ is = absurd is

entry_so : (before : List Moment) (n : ℕ) (e : Entry) (os : List Output) → GivesEntry (Tells e) → IsSo before n (Tells e) os → EntryOf n (Told e)
entry_so before n (entry.Update (update.Proposed f v text)) os event so = (event, own_epoch f n so.0)
entry_so before n _ os event so = (event, so)

entry_announced : (before : List Moment) (n : ℕ) (e : Entry) (os : List Output) (entries : List Moment)
    → ((m : ℕ) (b : Body) → IsBehind n m b os → IsShort n b → sends_or_falls n m (named (name_of b)) entries ≡ true) → IsSo before n (Tells e) os → IsAnnounced before (Told e) entries
entry_announced before n (entry.Update (update.Proposed f v text)) os entries said so =
    λ m other. subst (λ k. sends_or_falls k m (name.Prepare v) entries ≡ true) (sym so.0) (said m (body.Prepare f v text) (so.2 m other) so.1)
entry_announced before n _ os entries said so = tt

told_said : (n m : ℕ) (b : Body) (e : Entry) (os : List Output) (entries : List Moment) → (IsBehind n m b os → sends_or_falls n m (named (name_of b)) entries ≡ true) → IsBehind n m b (Tells e ∷ os)
    → sends_or_falls n m (named (name_of b)) (Told e ∷ entries) ≡ true
told_said n m b e os entries rest (inl here) =
    or_first (Does n m (named (name_of b)) (Told e)) (list_any (Does n m (named (name_of b))) entries) (falls_so n m b (named (name_of b)) e here)
told_said n m b e os entries rest (inr later) =
    or_later (Does n m (named (name_of b)) (Told e)) (list_any (Does n m (named (name_of b))) entries) (rest later)

sent_said : (n m to : ℕ) (b sent : Body) (os : List Output) (first entries : List Moment) → (IsShort n sent → sends_or_falls n to (named (name_of sent)) first ≡ true)
    → (IsBehind n m b os → sends_or_falls n m (named (name_of b)) entries ≡ true) → IsShort n b → IsBehind n m b (Sends to sent ∷ os) → sends_or_falls n m (named (name_of b)) (first ++ entries) ≡ true
sent_said n m to b sent os first entries here rest short (inl is) =
    any_more (Does n m (named (name_of b))) first entries
    (subst (λ k. sends_or_falls n k (named (name_of b)) first ≡ true) is.0
    (subst (λ z. sends_or_falls n to (named (name_of z)) first ≡ true) is.1 (here (subst (λ z. IsShort n z) (sym is.1) short))))
sent_said n m to b sent os first entries here rest short (inr later) = any_behind (Does n m (named (name_of b))) first entries (rest later)

pub passed : (before : List Moment) (n : ℕ) (os : List Output) (s : Scene) → AllByRecursion GivesEntry os → AreSo before n os → Passed before n os s (passing n os s)
passed before n [] s events so = record { entries = []; own = tt; is = refl; said = λ m b behind short left. absurd behind; announced = λ left. tt }
passed before n (Tells e ∷ os) s events so =
    let rest : Passed before n os (telling e s) (passing n os (telling e s)) = passed before n os (telling e s) events.1 so.1 in
    record {
      entries = Told e ∷ rest.entries;
      own = (entry_so before n e os events.0 so.0, rest.own);
      is = rest.is;
      said = λ m b behind short left. told_said n m b e os rest.entries (λ later. rest.said m b later short left) behind;
      announced = λ left. (entry_announced before n e os rest.entries (λ m b behind short. rest.said m b behind short left) so.0, rest.announced left);
    }
passed before n (Sends to sent ∷ os) s events so =
    let u : Scene = posting n to (record { sender = n; body = sent }) s in
    let first : Posted before n to sent s u = posted before n to sent s in
    let rest : Passed before n os u (passing n os u) = passed before n os u events.1 so.1 in
    record {
      entries = first.entries ++ rest.entries;
      own = both (EntryOf n) first.entries rest.entries first.own rest.own;
      is = onto_both s.moments first.entries rest.entries ∙ (ap (λ ms. onto ms rest.entries) first.is ∙ rest.is);
      said = λ m b behind short left.
          sent_said n m to b sent os first.entries rest.entries
          (λ fits. first.said fits (left_before s.links.next (passing n os u).links.next (2 ^ 63) (passing_next n (Sends to sent ∷ os) s) left))
          (λ later. rest.said m b later short left) short behind;
      announced = λ left. announced_both before first.entries rest.entries first.announced (rest.announced left);
    }
