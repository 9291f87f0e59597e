-- What a node gives becomes entries, in which the Installs of each install of its own stand behind it.
use Rattle.std.specs.Prelude.{ℕ, ◌≡◌, ◌++◌, ◌==◌, ◌&&◌, ◌||◌, ◌^◌, nat_le, nat_lt, length, Bool, true, false, List, [], ◌∷◌, Option, None, Some}
use Rattle.std.specs.List.{AllByRecursion, list_any}
use Rattle.std.proofs.Common.{refl, ap, sym, subst, ◌∙◌, inl, inr, arith}
use Rattle.attempt_laws.proofs.Walk.{if_with}
use Rattle.cl_base.specs.Kinds.{kind_byte}
use Rattle.cl_base.specs.declared.packet.DropCause.{DropCause}
use Rattle.cl_base.specs.declared.panic.Panic.TheVariants as panic
use Rattle.cmm_attempt.proofs.Basics.{false_true}
use Rattle.history.specs.Letters.{sends}
use Rattle.history.specs.Moment.{Moment, Told}
use Rattle.history.specs.Names as name
use Rattle.history.specs.Names.{Name, kind_of, named, number_of, same_name, same_number as same_option}
use Rattle.interconnect.specs.Links as net
use Rattle.interconnect.specs.Links.{sending}
use Rattle.node_model.specs.declared.output.Output.{Output}
use Rattle.node_model.specs.declared.output.Output.TheVariants.{Sends, Tells}
use Rattle.run_history.proofs.Lists.{both}
use Rattle.run_history.specs.Scenes.{Scene, dropped_so, passing, posting, sent_as, telling, with_links}
use Rattle.run_lines.proofs.Adds.{Adds, onto}
use Rattle.run_lines.specs.Entries.{GivesEntry, IsEntry}
use Rattle.status_report.specs.declared.entry.Entry.{Entry}
use Rattle.status_report.specs.declared.entry.Entry.TheVariants as entry
use Rattle.status_report.specs.declared.node_entry.DownCause.TheVariants as cause
use Rattle.status_report.specs.declared.node_entry.NodeEntry.TheVariants as note
use Rattle.status_report.specs.declared.packet_entry.PacketEntry.TheVariants as packet
use Rattle.status_report.specs.declared.start_entry.StartEntry.TheVariants as start
use Rattle.wire.specs.Spelling.{spelling}
use Rattle.wire.specs.declared.message.Body.{Body}
use Rattle.wire.specs.declared.message.Body.TheVariants as body
use Rattle.wire.specs.declared.message.Install.{Install}
use Rattle.wire.specs.declared.message.Message.{Message}
use Rattle.world_model.specs.Sends.{is_sent, name_of}
use Rattle.run_packets.specs.waiting.Sendings.{IsLeft, IsShort}
use Rattle.run_packets.proofs.waiting.Numbers.{left_before, passing_next}
use Rattle.run_packets.proofs.waiting.Sent.{any_behind, any_more, onto_both}
use Rattle.run_packets.specs.installs.Passing.{AllGoOut, GoesOut, InstallFew, IsSent, IsStarted, OutSo, OutsSo, Passed, StartsThis, starts_or_fails}

both_true : (a b : Bool) → a ≡ true → b ≡ true → (a && b) ≡ true
both_true true b h k = k
both_true false b h k = absurd (false_true h)

or_first : (a b : Bool) → a ≡ true → (a || b) ≡ true
or_first true b h = refl
or_first false b h = absurd (false_true h)

or_later : (a b : Bool) → b ≡ true → (a || b) ≡ true
or_later true b h = refl
or_later false b h = h

is_itself : (k : ℕ) → (k == k) ≡ true
is_itself k = grind arith

option_itself : (o : Option ℕ) → same_option o o ≡ true
option_itself None = refl
option_itself (Some k) = is_itself k

name_itself : (called : Name) → same_name called called ≡ true
name_itself called = both_true (kind_byte (kind_of called) == kind_byte (kind_of called)) (same_option (number_of called) (number_of called)) (is_itself (kind_byte (kind_of called))) (option_itself (number_of called))

is_called : (n to : ℕ) (called : Name) → ((n == n) && (to == to) && same_name called called) ≡ true
is_called n to called = both_true ((n == n) && (to == to)) (same_name called called) (both_true (n == n) (to == to) (is_itself n) (is_itself to)) (name_itself called)

-- ---- more entries

goes_more : (before : List Moment) (x : Moment) (xs ys : List Moment) → GoesOut before x xs → GoesOut before x (xs ++ ys)
goes_more before (Told (entry.Node n (note.Installed e))) xs ys h = λ own. (λ m member. any_more (sends n m name.Install) xs ys ((h own).0 m member), λ none. any_more (starts_or_fails n e) xs ys ((h own).1 none))
goes_more before _ xs ys h = tt

pub go_both : (before xs ys : List Moment) → AllGoOut before xs → AllGoOut before ys → AllGoOut before (xs ++ ys)
go_both before [] ys h k = k
go_both before (x ∷ xs) ys h k = (goes_more before x xs ys h.0, go_both before xs ys h.1 k)

-- ---- one message

record Posted (before : List Moment) (n to : ℕ) (b : Body) (s t : Scene) : Type 0 where
  adds : Adds s.moments t.moments
  said : IsShort n b → IsLeft s.links.next → list_any (sends n to (named (name_of b))) adds.entries ≡ true
  plain : AllGoOut before adds.entries

posted_drop : (before : List Moment) (n to : ℕ) (b : Body) (s t : Scene) (e : Entry) (o : Option (ℕ × DropCause)) → t.moments ≡ Told e ∷ s.moments → IsEntry (Told e) → ((later : List Moment) → GoesOut before (Told e) later)
    → sends n to (named (name_of b)) (Told e) ≡ true → Posted before n to b s (dropped_so o t)
posted_drop before n to b s t e None is event none does = record {
  adds = record { entries = Told e ∷ []; are = (event, tt); is = sym is };
  said = λ short left. or_first (sends n to (named (name_of b)) (Told e)) false does;
  plain = (none [], tt);
}
posted_drop before n to b s t e (Some x) is event none does =
    let d : Moment = Told (entry.Packet (packet.Dropped x.0 x.1)) in
    record {
      adds = record { entries = Told e ∷ d ∷ []; are = (event, (tt, tt)); is = ap (λ ms. d ∷ ms) (sym is) };
      said = λ short left. or_first (sends n to (named (name_of b)) (Told e)) (list_any (sends n to (named (name_of b))) (d ∷ [])) does;
      plain = (none (d ∷ []), (tt, tt));
    }

posted : (before : List Moment) (n to : ℕ) (b : Body) (s : Scene) → Posted before n to b s (posting n to (record { sender = n; body = b }) s)
posted before n to b s =
    let m : Message = record { sender = n; body = b } in
    let o : net.Outcome = sending s.links n to (spelling m) in
    let e : Entry = entry.Packet (packet.Sent s.links.next n to (name_of m.body) (spelling m)) in
    if_with (λ (t : Scene). Posted before n to b s t) (is_sent s.links m) (is_sent s.links m) (sent_as n to m o s) s refl
    (λ goes. posted_drop before n to b s (telling e (with_links s o.after)) e o.sent.dropped refl tt (λ later. tt) (is_called n to (named (name_of b))))
    (λ stays. record {
      adds = record { entries = []; are = tt; is = refl };
      said = λ short left. absurd (false_true (sym stays ∙ both_true (nat_le (length (spelling m)) 131072) (nat_lt s.links.next (2 ^ 63)) short left));
      plain = tt;
    })

-- ---- all that it gives

-- each Install among these outputs has a packet's size
abbrev pub AreShort : ℕ → List Output → Type 0
AreShort n os = (m : ℕ) (i : Install) → IsSent m (body.Install i) os → InstallFew i → IsShort n (body.Install i)

pub record Left (before : List Moment) (n : ℕ) (os : List Output) (s t : Scene) : Type 0 where
  pub adds : Adds s.moments t.moments
  pub said : (m : ℕ) (b : Body) → IsSent m b os → IsShort n b → IsLeft t.links.next → list_any (sends n m (named (name_of b))) adds.entries ≡ true
  pub starts : (f : ℕ) → IsStarted n f os → list_any (starts_or_fails n f) adds.entries ≡ true
  pub out : AreShort n os → IsLeft t.links.next → OutsSo before n os → AllGoOut before adds.entries

told_out : (before : List Moment) (n : ℕ) (e : Entry) (os : List Output) (entries : List Moment) → ((m : ℕ) (i : Install) → IsSent m (body.Install i) os → InstallFew i → list_any (sends n m name.Install) entries ≡ true)
    → ((f : ℕ) → IsStarted n f os → list_any (starts_or_fails n f) entries ≡ true) → OutSo before n (Tells e) os → GoesOut before (Told e) entries
told_out before n (entry.Node k (note.Installed e)) os entries goes starts so =
    λ own. (
      λ m member.
          let p : Passed m os = (so.1 (sym own ∙ so.0)).0 m member in
          subst (λ j. list_any (sends j m name.Install) entries ≡ true) (sym so.0) (goes m p.install p.goes p.few),
      λ none. subst (λ j. list_any (starts_or_fails j e) entries ≡ true) (sym so.0) (starts e ((so.1 (sym own ∙ so.0)).1 none)),
    )
told_out before n _ os entries goes starts so = tt

-- what is told of a start, or of a save that is lost
start_told : (n f : ℕ) (e : Entry) → StartsThis n f (Tells e) → starts_or_fails n f (Told e) ≡ true
start_told n f (entry.Start (start.Started e members held count)) h = or_first (e == f) false (same_is e f h)
  where
    same_is : (a b : ℕ) → a ≡ b → (a == b) ≡ true
    same_is a b h = grind arith
start_told n f (entry.Node k (note.Down cause.Stopped)) h = same_is k n h.0
  where
    same_is : (a b : ℕ) → a ≡ b → (a == b) ≡ true
    same_is a b h = grind arith
start_told n f (entry.Node k (note.Down (cause.Panic panic.Disk))) h = same_is k n h.0
  where
    same_is : (a b : ℕ) → a ≡ b → (a == b) ≡ true
    same_is a b h = grind arith
start_told n f (entry.Node k (note.Down cause.Crash)) h = absurd h.1
start_told n f (entry.Node k (note.Down (cause.Panic (panic.Fenced d)))) h = absurd h.1
start_told n f (entry.Node k (note.Down (cause.Panic (panic.Excluded e)))) h = absurd h.1
start_told n f (entry.Node k (note.Down (cause.Panic (panic.Stop r)))) h = absurd h.1
start_told n f _ h = absurd h

told_start : (n f : ℕ) (e : Entry) (os : List Output) (entries : List Moment) → (IsStarted n f os → list_any (starts_or_fails n f) entries ≡ true) → IsStarted n f (Tells e ∷ os) → list_any (starts_or_fails n f) (Told e ∷ entries) ≡ true
told_start n f e os entries rest (inl here) = or_first (starts_or_fails n f (Told e)) (list_any (starts_or_fails n f) entries) (start_told n f e here)
told_start n f e os entries rest (inr later) = or_later (starts_or_fails n f (Told e)) (list_any (starts_or_fails n f) entries) (rest later)

sent_start : (n f to : ℕ) (b : Body) (os : List Output) (first entries : List Moment) → (IsStarted n f os → list_any (starts_or_fails n f) entries ≡ true) → IsStarted n f (Sends to b ∷ os) → list_any (starts_or_fails n f) (first ++ entries) ≡ true
sent_start n f to b os first entries rest (inl here) = absurd here
sent_start n f to b os first entries rest (inr later) = any_behind (starts_or_fails n f) first entries (rest later)

sent_said : (n m to : ℕ) (b sent : Body) (os : List Output) (first entries : List Moment) → (IsShort n sent → list_any (sends n to (named (name_of sent))) first ≡ true)
    → (IsSent m b os → list_any (sends n m (named (name_of b))) entries ≡ true) → IsShort n b → IsSent m b (Sends to sent ∷ os) → list_any (sends n m (named (name_of b))) (first ++ entries) ≡ true
sent_said n m to b sent os first entries here rest short (inl is) =
    any_more (sends n m (named (name_of b))) first entries
    (subst (λ k. list_any (sends n k (named (name_of b))) first ≡ true) is.0
    (subst (λ z. list_any (sends n to (named (name_of z))) first ≡ true) is.1 (here (subst (λ z. IsShort n z) (sym is.1) short))))
sent_said n m to b sent os first entries here rest short (inr later) = any_behind (sends n m (named (name_of b))) first entries (rest later)

told_said : (n m : ℕ) (b : Body) (e : Entry) (os : List Output) (entries : List Moment) → (IsSent m b os → list_any (sends n m (named (name_of b))) entries ≡ true) → IsSent m b (Tells e ∷ os)
    → list_any (sends n m (named (name_of b))) (Told e ∷ entries) ≡ true
told_said n m b e os entries rest (inl here) = absurd here
told_said n m b e os entries rest (inr later) = or_later (sends n m (named (name_of b)) (Told e)) (list_any (sends n m (named (name_of b))) entries) (rest later)

pub left_passing : (before : List Moment) (n : ℕ) (os : List Output) (s : Scene) → AllByRecursion GivesEntry os → Left before n os s (passing n os s)
left_passing before n [] s are = record { adds = record { entries = []; are = tt; is = refl }; said = λ m b sent short left. absurd sent; starts = λ f h. absurd h; out = λ shorts left so. tt }
left_passing before n (Tells e ∷ os) s are =
    let r : Left before n os (telling e s) (passing n os (telling e s)) = left_passing before n os (telling e s) are.1 in
    record {
      adds = record { entries = Told e ∷ r.adds.entries; are = (are.0, r.adds.are); is = r.adds.is };
      said = λ m b sent short left. told_said n m b e os r.adds.entries (λ later. r.said m b later short left) sent;
      starts = λ f h. told_start n f e os r.adds.entries (λ later. r.starts f later) h;
      out = λ shorts left so. (
        told_out before n e os r.adds.entries (λ m i sent few. r.said m (body.Install i) sent (shorts m i (inr sent) few) left) (λ f h. r.starts f h) so.0,
        r.out (λ m i sent few. shorts m i (inr sent) few) left so.1,
      );
    }
left_passing before n (Sends to sent ∷ os) s are =
    let u : Scene = posting n to (record { sender = n; body = sent }) s in
    let p : Posted before n to sent s u = posted before n to sent s in
    let r : Left before n os u (passing n os u) = left_passing before n os u are.1 in
    record {
      adds = record {
        entries = p.adds.entries ++ r.adds.entries;
        are = both IsEntry p.adds.entries r.adds.entries p.adds.are r.adds.are;
        is = onto_both p.adds.entries r.adds.entries s.moments ∙ (ap (λ ms. onto r.adds.entries ms) p.adds.is ∙ r.adds.is);
      };
      said = λ m b goes short left.
          sent_said n m to b sent os p.adds.entries r.adds.entries
          (λ fits. p.said fits (left_before s.links.next (passing n os u).links.next (2 ^ 63) (passing_next n (Sends to sent ∷ os) s) left))
          (λ later. r.said m b later short left) short goes;
      starts = λ f h. sent_start n f to sent os p.adds.entries r.adds.entries (λ later. r.starts f later) h;
      out = λ shorts left so. go_both before p.adds.entries r.adds.entries p.plain (r.out (λ m i goes few. shorts m i (inr goes) few) left so.1);
    }
