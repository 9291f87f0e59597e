-- What a node gives becomes entries, among which is each message that has a packet's size, where a packet number is left.
use Rattle.std.specs.Prelude.{ℕ, ◌≡◌, ◌++◌, ◌==◌, ◌&&◌, ◌||◌, ◌^◌, nat_le, nat_lt, length, Bool, true, false, List, [], ◌∷◌, Option, None, Some}
use Rattle.std.specs.List.{AllByRecursion, list_any}
use Rattle.std.proofs.Common.{refl, ap, sym, subst, ◌∙◌, inl, inr}
use Rattle.std.proofs.lemmas.List.{append_assoc}
use Rattle.std.proofs.lemmas.List.Folds.{list_any-append}
use Rattle.attempt_laws.proofs.Walk.{if_with}
use Rattle.cl_base.specs.Kinds.{kind_byte}
use Rattle.cl_base.specs.declared.method.Outcome as method
use Rattle.cl_base.specs.declared.packet.DropCause.{DropCause}
use Rattle.cmm_attempt.proofs.Basics.{false_true}
use Rattle.history.specs.Letters.{sends}
use Rattle.history.specs.Messages.{is_down_of, sends_or_falls}
use Rattle.history.specs.Moment.{Moment, Told}
use Rattle.history.specs.Names.{Name, kind_of, named, number_of, same_name, same_number as same_option}
use Rattle.interconnect.specs.Links as net
use Rattle.interconnect.specs.Links.{sending}
use Rattle.node_model.specs.declared.cluster.Cluster.{Cluster}
use Rattle.node_model.specs.declared.input.Input.{Input}
use Rattle.node_model.specs.declared.output.Output.{Output}
use Rattle.node_model.specs.declared.output.Output.TheVariants.{Sends, Tells}
use Rattle.refinement.specs.Runs.{moved}
use Rattle.refinement.specs.Runs.Move.{Takes as Takes_in}
use Rattle.run_history.proofs.Lists.{both}
use Rattle.run_history.specs.Happenings.{given_by, taking}
use Rattle.run_history.specs.Scenes.{Scene, dropped_so, passing, posting, sent_as, telling, with_links}
use Rattle.run_lines.proofs.Adds.{Adds, onto}
use Rattle.run_lines.proofs.Outputs.{gives_entries}
use Rattle.run_lines.specs.Entries.{GivesEntry, IsEntry}
use Rattle.run_packets.proofs.prepares.Lines.{same_number as is_itself}
use Rattle.run_messages.specs.Outputs.{AreGood, NoPacket}
use Rattle.run_packets.specs.repeats.Events.{StartsElse}
use Rattle.run_packets.proofs.prepares.Numbers.{left_before, passing_next}
use Rattle.run_packets.specs.prepares.Events.{IsLeft}
use Rattle.run_packets.specs.prepares.Proposals.{IsBehind, IsShort, SendsOrFalls}
use Rattle.status_report.specs.declared.entry.Entry.{Entry}
use Rattle.status_report.specs.declared.entry.Entry.TheVariants as entry
use Rattle.status_report.specs.declared.node_entry.NodeEntry.TheVariants as note
use Rattle.status_report.specs.declared.packet_entry.PacketEntry.TheVariants as packet
use Rattle.wire.specs.Spelling.{spelling}
use Rattle.wire.specs.declared.message.Body.{Body}
use Rattle.wire.specs.declared.message.Message.{Message}
use Rattle.world_model.specs.Sends.{is_sent, name_of}

or_first : (a b : Bool) → a ≡ true → (a || b) ≡ true
or_first true b h = refl
or_first false b h = absurd (false_true h)

or_later : (a b : Bool) → b ≡ true → (a || b) ≡ true
or_later true b h = refl
or_later false b h = h

both_true : (a b : Bool) → a ≡ true → b ≡ true → (a && b) ≡ true
both_true true b h k = k
both_true false b h k = absurd (false_true h)

-- n sends m this there, or goes down
abbrev Does : ℕ → ℕ → Name → Moment → Bool
Does n m called x = sends n m called x || is_down_of n x

any_more : (test : Moment → Bool) (xs ys : List Moment) → list_any test xs ≡ true → list_any test (xs ++ ys) ≡ true
any_more test xs ys h = list_any-append test xs ys ∙ or_first (list_any test xs) (list_any test ys) h

any_behind : (test : Moment → Bool) (xs ys : List Moment) → list_any test ys ≡ true → list_any test (xs ++ ys) ≡ true
any_behind test xs ys h = list_any-append test xs ys ∙ or_later (list_any test xs) (list_any test ys) h

option_itself : (o : Option ℕ) → same_option o o ≡ true
option_itself None = refl
option_itself (Some k) = is_itself k

name_itself : (called : Name) → same_name called called ≡ true
name_itself called = both_true (kind_byte (kind_of called) == kind_byte (kind_of called)) (same_option (number_of called) (number_of called)) (is_itself (kind_byte (kind_of called))) (option_itself (number_of called))

is_called : (n to : ℕ) (called : Name) → ((n == n) && (to == to) && same_name called called) ≡ true
is_called n to called = both_true ((n == n) && (to == to)) (same_name called called) (both_true (n == n) (to == to) (is_itself n) (is_itself to)) (name_itself called)

pub onto_both : (xs ys before : List Moment) → onto (xs ++ ys) before ≡ onto ys (onto xs before)
onto_both [] ys before = refl
onto_both (x ∷ xs) ys before = onto_both xs ys (x ∷ before)

-- one message
record Posted (n to : ℕ) (b : Body) (s t : Scene) : Type 0 where
  adds : Adds s.moments t.moments
  first : (rest : List Moment) → StartsElse rest → StartsElse (adds.entries ++ rest)
  said : IsShort n b → IsLeft s.links.next → sends_or_falls n to (named (name_of b)) adds.entries ≡ true

dropped_posted : (n to : ℕ) (b : Body) (s t : Scene) (e : Entry) (o : Option (ℕ × DropCause)) → t.moments ≡ Told e ∷ s.moments → IsEntry (Told e) → ((rest : List Moment) → StartsElse (Told e ∷ rest)) → Does n to (named (name_of b)) (Told e) ≡ true → Posted n to b s (dropped_so o t)
dropped_posted n to b s t e None is event first does =
    record { adds = record { entries = Told e ∷ []; are = (event, tt); is = sym is }; first = λ rest h. first rest; said = λ short left. or_first (Does n to (named (name_of b)) (Told e)) false does }
dropped_posted n to b s t e (Some x) is event first does =
    let d : Moment = Told (entry.Packet (packet.Dropped x.0 x.1)) in
    record {
      adds = record { entries = Told e ∷ d ∷ []; are = (event, (tt, tt)); is = ap (λ ms. d ∷ ms) (sym is) };
      first = λ rest h. first (d ∷ rest);
      said = λ short left. or_first (Does n to (named (name_of b)) (Told e)) (list_any (Does n to (named (name_of b))) (d ∷ [])) does;
    }

posted : (n to : ℕ) (b : Body) (s : Scene) → Posted n to b s (posting n to (record { sender = n; body = b }) s)
posted n to b s =
    let m : Message = record { sender = n; body = b } in
    let o : net.Outcome = sending s.links n to (spelling m) in
    let e : Entry = entry.Packet (packet.Sent s.links.next n to (name_of m.body) (spelling m)) in
    if_with (λ (t : Scene). Posted n to b s t) (is_sent s.links m) (is_sent s.links m) (sent_as n to m o s) s refl
    (λ goes. dropped_posted n to b s (telling e (with_links s o.after)) e o.sent.dropped refl tt (λ rest. tt)
    (or_first (sends n to (named (name_of b)) (Told e)) (is_down_of n (Told e)) (is_called n to (named (name_of b)))))
    (λ stays. record {
      adds = record { entries = []; are = tt; is = refl };
      first = λ rest h. h;
      said = λ short left. absurd (false_true (sym stays ∙ both_true (nat_le (length (spelling m)) 131072) (nat_lt s.links.next (2 ^ 63)) short left));
    })

-- all that it gives
pub record Left (n : ℕ) (os : List Output) (s t : Scene) : Type 0 where
  pub adds : Adds s.moments t.moments
  pub first : (rest : List Moment) → StartsElse rest → StartsElse (adds.entries ++ rest)
  pub said : (m : ℕ) (b : Body) → IsBehind n m b os → IsShort n b → IsLeft t.links.next → sends_or_falls n m (named (name_of b)) adds.entries ≡ true

falls_so : (n m : ℕ) (b : Body) (called : Name) (e : Entry) → SendsOrFalls n m b (Tells e) → Does n m called (Told e) ≡ true
falls_so n m b called (entry.Node k (note.Down why)) is = ap (λ z. z == n) is ∙ is_itself n
falls_so n m b called _ is = absurd is

told_said : (n m : ℕ) (b : Body) (e : Entry) (os : List Output) (entries : List Moment) → (IsBehind n m b os → sends_or_falls n m (named (name_of b)) entries ≡ true) → IsBehind n m b (Tells e ∷ os)
    → sends_or_falls n m (named (name_of b)) (Told e ∷ entries) ≡ true
told_said n m b e os entries rest (inl here) =
    or_first (Does n m (named (name_of b)) (Told e)) (list_any (Does n m (named (name_of b))) entries) (falls_so n m b (named (name_of b)) e here)
told_said n m b e os entries rest (inr later) = or_later (Does n m (named (name_of b)) (Told e)) (list_any (Does n m (named (name_of b))) entries) (rest later)

sent_said : (n m to : ℕ) (b sent : Body) (os : List Output) (first entries : List Moment) → (IsShort n sent → sends_or_falls n to (named (name_of sent)) first ≡ true)
    → (IsBehind n m b os → sends_or_falls n m (named (name_of b)) entries ≡ true) → IsShort n b → IsBehind n m b (Sends to sent ∷ os) → sends_or_falls n m (named (name_of b)) (first ++ entries) ≡ true
sent_said n m to b sent os first entries here rest short (inl is) =
    any_more (Does n m (named (name_of b))) first entries
    (subst (λ k. sends_or_falls n k (named (name_of b)) first ≡ true) is.0
    (subst (λ z. sends_or_falls n to (named (name_of z)) first ≡ true) is.1 (here (subst (λ z. IsShort n z) (sym is.1) short))))
sent_said n m to b sent os first entries here rest short (inr later) = any_behind (Does n m (named (name_of b))) first entries (rest later)

else_line : (e : Entry) (rest : List Moment) → NoPacket e → StartsElse (Told e ∷ rest)
else_line (entry.Packet e) rest good = absurd good
else_line _ rest good = tt

pub left_passing : (n : ℕ) (os : List Output) (s : Scene) → AllByRecursion GivesEntry os → AreGood n os → Left n os s (passing n os s)
left_passing n [] s are good = record { adds = record { entries = []; are = tt; is = refl }; first = λ rest h. h; said = λ m b behind short left. absurd behind }
left_passing n (Tells e ∷ os) s are good =
    let r : Left n os (telling e s) (passing n os (telling e s)) = left_passing n os (telling e s) are.1 good.1 in
    record {
      adds = record { entries = Told e ∷ r.adds.entries; are = (are.0, r.adds.are); is = r.adds.is };
      first = λ rest h. else_line e (r.adds.entries ++ rest) good.0;
      said = λ m b behind short left. told_said n m b e os r.adds.entries (λ later. r.said m b later short left) behind;
    }
left_passing n (Sends to sent ∷ os) s are good =
    let u : Scene = posting n to (record { sender = n; body = sent }) s in
    let p : Posted n to sent s u = posted n to sent s in
    let r : Left n os u (passing n os u) = left_passing n os u are.1 good.1 in
    record {
      adds = record {
        entries = p.adds.entries ++ r.adds.entries;
        are = both IsEntry p.adds.entries r.adds.entries p.adds.are r.adds.are;
        is = onto_both p.adds.entries r.adds.entries s.moments ∙ (ap (λ ms. onto r.adds.entries ms) p.adds.is ∙ r.adds.is);
      };
      first = λ rest h. subst StartsElse (sym (append_assoc p.adds.entries r.adds.entries rest)) (p.first (r.adds.entries ++ rest) (r.first rest h));
      said = λ m b behind short left.
          sent_said n m to b sent os p.adds.entries r.adds.entries
          (λ fits. p.said fits (left_before s.links.next (passing n os u).links.next (2 ^ 63) (passing_next n (Sends to sent ∷ os) s) left))
          (λ later. r.said m b later short left) short behind;
    }

-- what comes to a node
pub left_taking : (c : Cluster) (n now : ℕ) (ends : method.Outcome) (i : Input) (s : Scene) → AreGood n (given_by c n now ends i s.nodes) → Left n (given_by c n now ends i s.nodes) (record s { nodes = moved c s.nodes (Takes_in n now ends i) }) (taking c n now ends i s)
left_taking c n now ends i s good =
    left_passing n (given_by c n now ends i s.nodes) (record s { nodes = moved c s.nodes (Takes_in n now ends i) }) (gives_entries c n now ends (s.nodes.node n) (s.nodes.disk n) i) good
