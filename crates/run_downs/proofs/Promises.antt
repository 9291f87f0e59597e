-- What the lines say that a node has promised, its record has promised too.
use Rattle.std.specs.Prelude.{ℕ, ◌==◌, ◌≡◌, ◌≤◌, ◌&&◌, ◌||◌, All, Bool, true, false, List, [], ◌∷◌, Option, None, Some, if◌then◌else◌}
use Rattle.std.specs.List.{AllByRecursion, list_any}
use Rattle.std.specs.Option.{option_and_then}
use Rattle.std.proofs.Common.{refl, sym, ap, subst, ◌∙◌, arith}
use Rattle.cl_base.specs.declared.method.Outcome as method
use Rattle.cl_base.specs.declared.packet.DropCause.{DropCause}
use Rattle.cmm_attempt.proofs.Basics.{if_either}
use Rattle.cmm_attempt.specs.Calls.{IsDevice}
use Rattle.cmm_member.specs.Records.{NodeRecord}
use Rattle.history.specs.Letters.{Letter, arrived, passes}
use Rattle.history.specs.Member.{in_collect, number_of, promised_to}
use Rattle.history.specs.Moment.{Moment, Told}
use Rattle.history.specs.Names as name
use Rattle.history.specs.Names.{same_name}
use Rattle.history.specs.Saves.{or_zero, promise_of}
use Rattle.history.specs.Seizing.{is_attempt}
use Rattle.history.specs.Setting.{coordinator}
use Rattle.machine_base.specs.Epochs as machine
use Rattle.interconnect.specs.Links as net
use Rattle.interconnect.specs.Links.{sending}
use Rattle.membership_machine.specs.Invariant.{Holds}
use Rattle.membership_machine.specs.State.{Memberships}
use Rattle.node_model.specs.declared.cluster.Cluster.{Cluster}
use Rattle.node_model.specs.declared.input.Input.{Input}
use Rattle.node_model.specs.declared.node.Node.{Node}
use Rattle.node_model.specs.declared.node.Node.TheVariants.{Down, Up}
use Rattle.node_model.specs.declared.output.Output.{Output}
use Rattle.node_model.specs.declared.output.Output.TheVariants.{Sends, Tells}
use Rattle.node_model.specs.declared.seat.Seat.{Seat}
use Rattle.node_model.specs.declared.seat.Seat.TheVariants.{Forming, Member}
use Rattle.node_model.specs.Steps.{Outcome, stepped}
use Rattle.record_disk.specs.Disks.{DiskState}
use Rattle.refinement.specs.Steps.{disk_rules}
use Rattle.refinement.specs.Ties.{NodeTied, SeatTied, setting_of}
use Rattle.refinement.specs.Whole.{IsTrue, Stands, StepGoes}
use Rattle.refinement.proofs.Disks.{disks_keep_rules}
use Rattle.refinement.proofs.Facts.{steps_go}
use Rattle.status_report.specs.declared.attempt_entry.AttemptEntry.TheVariants as attempt
use Rattle.status_report.specs.declared.entry.Entry.{Entry}
use Rattle.status_report.specs.declared.entry.Entry.TheVariants as entry
use Rattle.status_report.specs.declared.node_entry.NodeEntry.TheVariants as note
use Rattle.status_report.specs.declared.packet_entry.PacketEntry.TheVariants as packet
use Rattle.wire.specs.Spelling.{spelling}
use Rattle.wire.specs.declared.message.Message.{Message}
use Rattle.world_model.specs.Sends.{is_sent, name_of}
use Rattle.run_history.specs.Noted.{LinesTried}
use Rattle.run_history.specs.Scenes.{Scene, dropped_so, passing, posting, sent_as, telling, with_links}
use Rattle.run_downs.proofs.Packets.{IsNoPacket, posted_came, told_came}

-- ---- the record of a node in the machine

-- the machine's node has promised what its record has
pub promised_there : (c : Cluster) (M : Memberships) (n : ℕ) (disk : NodeRecord) (node : Node) → NodeTied c M n disk node → (M.node n).promised ≡ disk.promised
promised_there c M n disk Down tied = tied.0.promised
promised_there c M n disk (Up x) tied = by_seat x.seat tied.0
  where
    by_seat : (seat : Seat) → SeatTied c M n disk x.attempt seat → (M.node n).promised ≡ disk.promised
    by_seat (Forming s) h = h.0.promised ∙ ap (λ (r : NodeRecord). r.promised) (sym h.1)
    by_seat (Member s) h = h.0.promised ∙ ap (λ (r : NodeRecord). r.promised) (sym h.1)

-- a step leaves what is promised promised
pub step_promises : (c : Cluster) (M : Memberships) (n now : ℕ) (ends : method.Outcome) (node : Node) (disk : DiskState) (i : Input) → n ≤ 32 → All IsDevice c.attached → Holds (setting_of c) M → IsTrue M i
    → Stands c M n node disk.kept → disk.kept.promised ≤ (stepped disk_rules c n now ends node disk i).disk.kept.promised
step_promises c M n now ends node disk i low fits holds so stands =
    let o : Outcome DiskState = stepped disk_rules c n now ends node disk i in
    let g : StepGoes c M n o.after o.disk.kept o.given = steps_go disk_rules disks_keep_rules c M n now ends node disk i low fits holds so stands in
    subst (λ a. a ≤ o.disk.kept.promised) (promised_there c M n disk.kept node stands.tied)
    (subst (λ b. (M.node n).promised ≤ b) (promised_there c g.machine n o.disk.kept o.after g.stands.tied) (g.grows.node n).promised)

-- ---- the lines

-- no node has promised more, by these lines
abbrev pub Under : (ℕ → ℕ) → List Moment → Type 0
Under B ms = (j : ℕ) → promise_of j ms ≤ B j

abbrev pub FitsAttempt : (ℕ → ℕ) → Output → Type 0
FitsAttempt B (Tells (entry.Attempt (attempt.Begun e members))) = e ≤ B (coordinator e)
FitsAttempt B _ = Unit {0}

-- a Collect to node m came
abbrev pub collects_in : ℕ → Option Letter → Bool
collects_in m came = passes (λ (l : Letter). same_name l.name name.Collect && (l.to == m)) came

-- the number of the attempt in which the letter was sent that came
abbrev pub number_in : Option Letter → Option ℕ
number_in came = option_and_then number_of came

-- what it saves in the event of a Collect it has promised
abbrev pub FitsSave : (ℕ → ℕ) → List Moment → Output → Type 0
FitsSave B ms (Tells (entry.Node m note.Saved)) = in_collect m ms ≡ true → or_zero (promised_to ms) ≤ B m
FitsSave B ms _ = Unit {0}

by_number : (B : ℕ → ℕ) (m j e k : ℕ) → e ≤ B m → k ≤ B j → (if m == j then e else k) ≤ B j
by_number B m j e k h i = go (m == j) refl
  where
    same_so : (a b : ℕ) → (a == b) ≡ true → a ≡ b
    same_so a b eq = grind arith

    go : (b : Bool) → (m == j) ≡ b → (if b then e else k) ≤ B j
    go true is = subst (λ z. e ≤ B z) (same_so m j is) h
    go false is = i

by_collect : (B : ℕ → ℕ) (m j e k : ℕ) (collect : Bool) → (collect ≡ true → e ≤ B m) → k ≤ B j → (if (m == j) && collect then e else k) ≤ B j
by_collect B m j e k true h i = subst (λ b. (if b then e else k) ≤ B j) (sym (and_true (m == j))) (by_number B m j e k (h refl) i)
  where
    and_true : (b : Bool) → (b && true) ≡ b
    and_true true = refl
    and_true false = refl
by_collect B m j e k false h i = subst (λ b. (if b then e else k) ≤ B j) (sym (and_false (m == j))) i
  where
    and_false : (b : Bool) → (b && false) ≡ false
    and_false true = refl
    and_false false = refl

-- where the node that saves is another, what came is not its concern
collect_of : (m j : ℕ) (ms : List Moment) → ((m == j) && in_collect j ms) ≡ ((m == j) && in_collect m ms)
collect_of m j ms = go (m == j) refl
  where
    same_so : (a b : ℕ) → (a == b) ≡ true → a ≡ b
    same_so a b eq = grind arith

    go : (b : Bool) → (m == j) ≡ b → (b && in_collect j ms) ≡ (b && in_collect m ms)
    go true is = ap (λ z. in_collect z ms) (sym (same_so m j is))
    go false is = refl

told_under : (B : ℕ → ℕ) (e : Entry) (ms : List Moment) → FitsAttempt B (Tells e) → FitsSave B ms (Tells e) → Under B ms → Under B (Told e ∷ ms)
told_under B (entry.Attempt (attempt.Begun e members)) ms begins saves h j = by_number B (coordinator e) j e (promise_of j ms) begins (h j)
told_under B (entry.Node m note.Saved) ms begins saves h j =
    subst (λ b. (if b then or_zero (promised_to ms) else promise_of j ms) ≤ B j) (sym (collect_of m j ms))
    (by_collect B m j (or_zero (promised_to ms)) (promise_of j ms) (in_collect m ms) saves (h j))
told_under B _ ms begins saves h j = h j

dropped_under : (B : ℕ → ℕ) (o : Option (ℕ × DropCause)) (s : Scene) → Under B s.moments → Under B (dropped_so o s).moments
dropped_under B None s h = h
dropped_under B (Some x) s h = h

posted_under : (B : ℕ → ℕ) (from to : ℕ) (m : Message) (s : Scene) → Under B s.moments → Under B (posting from to m s).moments
posted_under B from to m s h =
    let o : net.Outcome = sending s.links from to (spelling m) in
    if_either (λ (z : Scene). Under B z.moments) (is_sent s.links m) (sent_as from to m o s) s
    (dropped_under B o.sent.dropped (telling (entry.Packet (packet.Sent s.links.next from to (name_of m.body) (spelling m))) (with_links s o.after)) h) h

-- a save fits wherever the same letter came
save_there : (B : ℕ → ℕ) (a b : List Moment) (o : Output) → arrived b ≡ arrived a → FitsSave B a o → FitsSave B b o
save_there B a b (Tells (entry.Node m note.Saved)) same h =
    λ collects. subst (λ (l : Option Letter). or_zero (number_in l) ≤ B m) (sym same) (h (ap (λ (l : Option Letter). collects_in m l) (sym same) ∙ collects))
save_there B a b _ same h = tt

saves_there : (B : ℕ → ℕ) (a b : List Moment) (os : List Output) → arrived b ≡ arrived a → AllByRecursion (FitsSave B a) os → AllByRecursion (FitsSave B b) os
saves_there B a b [] same h = tt
saves_there B a b (o ∷ os) same h = (save_there B a b o same h.0, saves_there B a b os same h.1)

pub passing_under : (B : ℕ → ℕ) (n : ℕ) (os : List Output) (s : Scene) → AllByRecursion IsNoPacket os → AllByRecursion (FitsAttempt B) os → AllByRecursion (FitsSave B s.moments) os → Under B s.moments
    → Under B (passing n os s).moments
passing_under B n [] s q begins saves h = h
passing_under B n (Tells e ∷ os) s q begins saves h =
    passing_under B n os (telling e s) q.1 begins.1 (saves_there B s.moments (Told e ∷ s.moments) os (told_came e s.moments q.0) saves.1) (told_under B e s.moments begins.0 saves.0 h)
passing_under B n (Sends to b ∷ os) s q begins saves h =
    let m : Message = record { sender = n; body = b } in
    passing_under B n os (posting n to m s) q.1 begins.1 (saves_there B s.moments (posting n to m s).moments os (posted_came n to m s) saves.1) (posted_under B n to m s h)

-- ---- the attempts among the lines

or_second : (a b : Bool) → b ≡ true → (a || b) ≡ true
or_second true b h = refl
or_second false b h = h

dropped_any : (test : Moment → Bool) (o : Option (ℕ × DropCause)) (s : Scene) → list_any test s.moments ≡ true → list_any test (dropped_so o s).moments ≡ true
dropped_any test None s h = h
dropped_any test (Some x) s h = or_second (test (Told (entry.Packet (packet.Dropped x.0 x.1)))) (list_any test s.moments) h

posted_any : (test : Moment → Bool) (from to : ℕ) (m : Message) (s : Scene) → list_any test s.moments ≡ true → list_any test (posting from to m s).moments ≡ true
posted_any test from to m s h =
    let o : net.Outcome = sending s.links from to (spelling m) in
    let e : Entry = entry.Packet (packet.Sent s.links.next from to (name_of m.body) (spelling m)) in
    if_either (λ (z : Scene). list_any test z.moments ≡ true) (is_sent s.links m) (sent_as from to m o s) s
    (dropped_any test o.sent.dropped (telling e (with_links s o.after)) (or_second (test (Told e)) (list_any test s.moments) h)) h

passing_any : (test : Moment → Bool) (n : ℕ) (os : List Output) (s : Scene) → list_any test s.moments ≡ true → list_any test (passing n os s).moments ≡ true
passing_any test n [] s h = h
passing_any test n (Tells e ∷ os) s h = passing_any test n os (telling e s) (or_second (test (Told e)) (list_any test s.moments) h)
passing_any test n (Sends to b ∷ os) s h = passing_any test n os (posting n to (record { sender = n; body = b }) s) (posted_any test n to (record { sender = n; body = b }) s h)

same_is : (e : ℕ) → (e == e) ≡ true
same_is e = grind arith

first_true : (a b : Bool) → a ≡ true → (a || b) ≡ true
first_true true b h = refl
first_true false b h = cc

one_begins : (B : ℕ → ℕ) (e : Entry) (ms : List Moment) → ((q : ℕ) → list_any (is_attempt q) (Told e ∷ ms) ≡ true → q ≤ B (coordinator q)) → FitsAttempt B (Tells e)
one_begins B (entry.Attempt (attempt.Begun e members)) ms h = h e (first_true (e == e) (list_any (is_attempt e) ms) (same_is e))
one_begins B _ ms h = tt

-- each is one of all lines after the step
pub attempts_fit : (B : ℕ → ℕ) (n : ℕ) (os : List Output) (s : Scene) → ((q : ℕ) → list_any (is_attempt q) (passing n os s).moments ≡ true → q ≤ B (coordinator q)) → AllByRecursion (FitsAttempt B) os
attempts_fit B n [] s h = tt
attempts_fit B n (Tells e ∷ os) s h =
    (one_begins B e s.moments (λ q is. h q (passing_any (is_attempt q) n os (telling e s) is)), attempts_fit B n os (telling e s) h)
attempts_fit B n (Sends to b ∷ os) s h = (tt, attempts_fit B n os (posting n to (record { sender = n; body = b }) s) h)

-- where each attempt was tried, its coordinator has promised it
pub attempts_promised : (c : Cluster) (M : Memberships) (v : ℕ → Node) (d : ℕ → DiskState) (ms : List Moment) → Holds (setting_of c) M → ((n : ℕ) → Stands c M n (v n) (d n).kept) → LinesTried M ms
    → (q : ℕ) → list_any (is_attempt q) ms ≡ true → q ≤ (d (coordinator q)).kept.promised
unfolding machine.coordinator
attempts_promised c M v d ms holds stands tried q is =
    let k : ℕ = coordinator q in
    subst (λ a. q ≤ a) (promised_there c M k (d k).kept (v k) (stands k).tied) ((holds.epoch q).tried_promised (tried q is))
