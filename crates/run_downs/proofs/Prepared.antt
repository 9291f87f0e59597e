-- At a Prepared a president acknowledges first what is pending, and then saves behind proposals alone.
use Rattle.std.specs.Prelude.{ℕ, ◌≡◌, ◌≤◌, ◌⊎◌, All, true, false, List, [], ◌∷◌, Option, None, Some, is_some}
use Rattle.std.proofs.Common.{refl, subst, inl, inr}
use Rattle.cl_base.specs.declared.method.Outcome as method
use Rattle.cmm_attempt.proofs.Basics.{if_either}
use Rattle.cmm_attempt.specs.Calls.{IsDevice}
use Rattle.cmm_member.specs.Nodes.{NodeState}
use Rattle.cmm_member.specs.Records.{NodeRecord}
use Rattle.history.specs.Names.{named}
use Rattle.membership_machine.specs.Invariant.{Holds}
use Rattle.membership_machine.specs.State.{Memberships}
use Rattle.node_model.specs.declared.cluster.Cluster.{Cluster}
use Rattle.node_model.specs.declared.input.Input.TheVariants as input
use Rattle.node_model.specs.declared.input.Input.{Input}
use Rattle.node_model.specs.declared.node.Node.TheVariants.{Up}
use Rattle.node_model.specs.declared.node.UpNode.{UpNode}
use Rattle.node_model.specs.declared.output.Output.{Output}
use Rattle.node_model.specs.declared.output.Output.TheVariants.{Tells}
use Rattle.node_model.specs.declared.presidency.Presidency.{Presidency}
use Rattle.node_model.specs.declared.seat.Seat.TheVariants.{Member}
use Rattle.node_model.specs.Members.{hearing, is_foreign}
use Rattle.node_model.specs.Presidents.{answer_given, last_place, others_of, with_proposals}
use Rattle.node_model.specs.Seats.{record_of, session_of}
use Rattle.node_model.specs.Steps.{at_second, stepped}
use Rattle.node_model.specs.Updates.{is_of_member}
use Rattle.proposals.specs.Proposing.{is_prepared, is_prepared_in, prepared_by}
use Rattle.proposals.specs.State.{first_in}
use Rattle.proposals.specs.declared.arrived.Arrived.{Arrived}
use Rattle.proposals.specs.declared.arrived.Proposed.{Proposed}
use Rattle.record_disk.specs.Disks.{DiskState}
use Rattle.refinement.specs.Courses.{Course, Reply, joined, under}
use Rattle.refinement.specs.Courses.Course.{Acts, Falls, Keeps, Stops}
use Rattle.refinement.specs.Courses.Reply.{Done, Lost_new, Lost_old}
use Rattle.refinement.specs.Cuts as cuts
use Rattle.refinement.specs.Cuts.{acknowledging_course, course_at, deciding_course, handling_course}
use Rattle.refinement.specs.Doings.{Doing, acted, changed, effect, given_all, gives, site}
use Rattle.refinement.specs.Doings.Act.{Accepts, Dates, Ends, Gives, Goes_on, Hears, Makes, Minds, Notes, Queues, Spreads, Stores, Takes, Ticks, Waits, Works, Writes}
use Rattle.refinement.specs.Doings.Change.{Acks, Proposes}
use Rattle.refinement.specs.Doings.Doing.{Does, Saves}
use Rattle.refinement.specs.Events.{of_doing}
use Rattle.refinement.specs.Guards.{MayAll, MayChange}
use Rattle.refinement.specs.Steps.{IsCut, disk_rules}
use Rattle.refinement.specs.Ties.{Delivered, GoesOn, Known, NodeTied, Presides, ProposedTied, setting_of}
use Rattle.refinement.specs.Whole.{IsTrue, Stands}
use Rattle.refinement.proofs.Acts.{does_one}
use Rattle.refinement.proofs.Disks.{disks_keep_rules}
use Rattle.refinement.proofs.Facts.{known_by, step_may}
use Rattle.refinement.proofs.Handlers.{delivered_by}
use Rattle.refinement.proofs.Presidents.{member_tied, presides_of}
use Rattle.refinement.proofs.Replies.{steps_are_cut}
use Rattle.refinement.proofs.Ties.{known_stays}
use Rattle.request_queue.specs.Queue.{Queue}
use Rattle.status_report.specs.declared.command_entry.Answer.TheVariants as answer
use Rattle.status_report.specs.declared.entry.Entry.TheVariants as entry
use Rattle.status_report.specs.declared.node_entry.DownCause.{DownCause}
use Rattle.status_report.specs.declared.node_entry.DownCause.TheVariants as cause
use Rattle.status_report.specs.declared.node_entry.NodeEntry.TheVariants as note
use Rattle.wire.specs.declared.message.Body.{Body}
use Rattle.wire.specs.declared.message.Body.TheVariants as body
use Rattle.wire.specs.declared.message.Message.{Message}
use Rattle.world_model.specs.Sends.{name_of}
use Rattle.run_history.proofs.LineSteps.{doings_small}
use Rattle.run_history.proofs.Small.{AllSmall}
use Rattle.run_downs.proofs.Courses.{GoesFine}
use Rattle.run_downs.proofs.Proposed.{AreProposed, all_outputs, under_proposed}
use Rattle.run_downs.proofs.Proposing.{SavesProposed, any_p, deciding_p, handling_p}
use Rattle.run_downs.specs.Laws.{asks_to_acknowledge}

not_so : false ≡ true → ⊥
not_so h = cc

-- the node is a member, and has an update pending
abbrev pub Pends : UpNode → Type 0
Pends x = (s : NodeState) × (x.seat ≡ Member s) × (is_some s.saved.entries.pending ≡ true)

-- the node stops alone, where Q; or each stop is behind a proposal
abbrev pub AtOnceOr : Type 0 → ℕ → List Output → Type 0
AtOnceOr Q n os = (Q × (os ≡ Tells (entry.Node n (note.Down cause.Stopped)) ∷ [])) ⊎ AreProposed n false os

-- the first save acknowledges, and each later one comes behind a proposal, or so does each
abbrev pub AcksFirst : Course → Type 0
AcksFirst (Acts (Dates now) rest) = AcksFirst rest
AcksFirst (Acts (Hears from b) rest) = AcksFirst rest
AcksFirst (Acts (Notes from place p) rest) = AcksFirst rest
AcksFirst (Keeps (Acks s p q left text) rest) = SavesProposed false rest
AcksFirst k = SavesProposed false k

saves_first : (k : Course) → SavesProposed false k → AcksFirst k
saves_first (Acts (Dates now) rest) h = saves_first rest h.1
saves_first (Acts (Hears from b) rest) h = saves_first rest h.1
saves_first (Acts (Notes from place p) rest) h = saves_first rest h.1
saves_first (Keeps (Acks s p q left text) rest) h = absurd (not_so h.0)
saves_first _ h = h

-- ---- outputs

gone_alone : (Q : Type 0) (n : ℕ) (why : DownCause) → Q → AtOnceOr Q n (Tells (entry.Node n (note.Down why)) ∷ [])
gone_alone Q n cause.Stopped q = inl (q, refl)
gone_alone Q n _ q = inr (tt, tt)

pending_by : (M : Memberships) (n : ℕ) (s : NodeState) (o : Option Proposed) → is_prepared_in o ≡ true → ProposedTied M n s o → is_some s.saved.entries.pending ≡ true
pending_by M n s None prepared tied = absurd (not_so prepared)
pending_by M n s (Some r) prepared tied = tied.1

pends : (c : Cluster) (M : Memberships) (n : ℕ) (told : Delivered) (x : UpNode) (disk : NodeRecord) (s : NodeState) (p : Presidency) (q : Queue) (left : Presidency) (text : List ℕ) → NodeTied c M n disk (Up x)
    → MayChange c n told x (Acks s p q left text) → Pends x
pends c M n told x disk s p q left text tied may =
    let k : Presides M n s p = presides_of M n x.presidency s p may.0 (member_tied c M n x disk s tied may.1).president in
    (s, may.1, pending_by M n s p.proposals.proposed may.2 k.proposed)

-- each save is behind a proposal
behind : (c : Cluster) (M : Memberships) (n : ℕ) (told : Delivered) (x : UpNode) (disk : NodeRecord) (replies : List Reply) (k : Course) → All IsDevice c.attached → Holds (setting_of c) M → Known M told
    → NodeTied c M n disk (Up x) → MayAll c n told (site (Up x) disk) (under replies k) → AllSmall (under replies k) → SavesProposed false k → GoesFine true k
    → AreProposed n false (given_all c n (site (Up x) disk) (under replies k))
behind c M n told x disk replies k fits holds known tied may small h fine =
    all_outputs c M n told (site (Up x) disk) (under replies k) false fits holds known tied may small (under_proposed false replies k h fine)

first_outputs : (c : Cluster) (M : Memberships) (n : ℕ) (told : Delivered) (x : UpNode) (disk : NodeRecord) (replies : List Reply) (k : Course) → All IsDevice c.attached → Holds (setting_of c) M → Known M told
    → NodeTied c M n disk (Up x) → MayAll c n told (site (Up x) disk) (under replies k) → AllSmall (under replies k) → AcksFirst k → GoesFine true k
    → AtOnceOr (Pends x) n (given_all c n (site (Up x) disk) (under replies k))
first_outputs c M n told x disk replies (Acts (Dates now) rest) fits holds known tied may small h fine =
    let d : Doing = Does (Dates now) in
    let g : GoesOn c M n (effect c n (site (Up x) disk) d) (gives c n (site (Up x) disk) d) (of_doing n d) = does_one c M n told (site (Up x) disk) d fits holds known tied may.0 in
    first_outputs c g.machine n told (acted c n x (Dates now)) disk replies rest fits g.holds (known_stays c M g.machine told holds g.grows known) g.tied may.1 small.1 h fine.1
first_outputs c M n told x disk replies (Acts (Hears from b) rest) fits holds known tied may small h fine =
    let d : Doing = Does (Hears from b) in
    let g : GoesOn c M n (effect c n (site (Up x) disk) d) (gives c n (site (Up x) disk) d) (of_doing n d) = does_one c M n told (site (Up x) disk) d fits holds known tied may.0 in
    first_outputs c g.machine n told (acted c n x (Hears from b)) disk replies rest fits g.holds (known_stays c M g.machine told holds g.grows known) g.tied may.1 small.1 h fine.1
first_outputs c M n told x disk replies (Acts (Notes from place p) rest) fits holds known tied may small h fine =
    let d : Doing = Does (Notes from place p) in
    let g : GoesOn c M n (effect c n (site (Up x) disk) d) (gives c n (site (Up x) disk) d) (of_doing n d) = does_one c M n told (site (Up x) disk) d fits holds known tied may.0 in
    first_outputs c g.machine n told (acted c n x (Notes from place p)) disk replies rest fits g.holds (known_stays c M g.machine told holds g.grows known) g.tied may.1 small.1 h fine.1
first_outputs c M n told x disk [] (Keeps (Acks s p q left text) rest) fits holds known tied may small h fine = gone_alone (Pends x) n cause.Stopped (pends c M n told x disk s p q left text tied may.0)
first_outputs c M n told x disk (Lost_new why ∷ replies) (Keeps (Acks s p q left text) rest) fits holds known tied may small h fine =
    gone_alone (Pends x) n why (pends c M n told x disk s p q left text tied may.0)
first_outputs c M n told x disk (Lost_old why ∷ replies) (Keeps (Acks s p q left text) rest) fits holds known tied may small h fine =
    gone_alone (Pends x) n why (pends c M n told x disk s p q left text tied may.0)
first_outputs c M n told x disk (Done ∷ replies) (Keeps (Acks s p q left text) rest) fits holds known tied may small h fine =
    let d : Doing = Saves (Acks s p q left text) in
    let g : GoesOn c M n (effect c n (site (Up x) disk) d) (gives c n (site (Up x) disk) d) (of_doing n d) = does_one c M n told (site (Up x) disk) d fits holds known tied may.0 in
    inr (
      tt,
      (
        tt,
        all_outputs c g.machine n told (effect c n (site (Up x) disk) d) (under replies rest) false fits g.holds (known_stays c M g.machine told holds g.grows known) g.tied may.1 small.1
            (under_proposed false replies rest h fine.1),
      ),
    )
first_outputs c M n told x disk replies Stops fits holds known tied may small h fine = inr tt
first_outputs c M n told x disk replies (Acts Ticks rest) fits holds known tied may small h fine = inr (behind c M n told x disk replies (Acts Ticks rest) fits holds known tied may small h fine)
first_outputs c M n told x disk replies (Acts Waits rest) fits holds known tied may small h fine = inr (behind c M n told x disk replies (Acts Waits rest) fits holds known tied may small h fine)
first_outputs c M n told x disk replies (Acts (Goes_on a k) rest) fits holds known tied may small h fine = inr (behind c M n told x disk replies (Acts (Goes_on a k) rest) fits holds known tied may small h fine)
first_outputs c M n told x disk replies (Acts (Ends a e) rest) fits holds known tied may small h fine = inr (behind c M n told x disk replies (Acts (Ends a e) rest) fits holds known tied may small h fine)
first_outputs c M n told x disk replies (Acts (Queues a d kind) rest) fits holds known tied may small h fine = inr (behind c M n told x disk replies (Acts (Queues a d kind) rest) fits holds known tied may small h fine)
first_outputs c M n told x disk replies (Acts (Accepts kind e members d) rest) fits holds known tied may small h fine = inr (behind c M n told x disk replies (Acts (Accepts kind e members d) rest) fits holds known tied may small h fine)
first_outputs c M n told x disk replies (Acts (Takes at command a) rest) fits holds known tied may small h fine = inr (behind c M n told x disk replies (Acts (Takes at command a) rest) fits holds known tied may small h fine)
first_outputs c M n told x disk replies (Acts (Stores d value a) rest) fits holds known tied may small h fine = inr (behind c M n told x disk replies (Acts (Stores d value a) rest) fits holds known tied may small h fine)
first_outputs c M n told x disk replies (Acts (Writes to b) rest) fits holds known tied may small h fine = inr (behind c M n told x disk replies (Acts (Writes to b) rest) fits holds known tied may small h fine)
first_outputs c M n told x disk replies (Acts (Makes change) rest) fits holds known tied may small h fine = inr (behind c M n told x disk replies (Acts (Makes change) rest) fits holds known tied may small h fine)
first_outputs c M n told x disk replies (Acts (Gives os) rest) fits holds known tied may small h fine = inr (behind c M n told x disk replies (Acts (Gives os) rest) fits holds known tied may small h fine)
first_outputs c M n told x disk replies (Acts (Spreads receivers b) rest) fits holds known tied may small h fine = inr (behind c M n told x disk replies (Acts (Spreads receivers b) rest) fits holds known tied may small h fine)
first_outputs c M n told x disk replies (Acts (Minds q p) rest) fits holds known tied may small h fine = inr (behind c M n told x disk replies (Acts (Minds q p) rest) fits holds known tied may small h fine)
first_outputs c M n told x disk replies (Acts (Works w) rest) fits holds known tied may small h fine = inr (behind c M n told x disk replies (Acts (Works w) rest) fits holds known tied may small h fine)
first_outputs c M n told x disk replies (Keeps (Proposes s p text) rest) fits holds known tied may small h fine = inr (behind c M n told x disk replies (Keeps (Proposes s p text) rest) fits holds known tied may small h fine)
first_outputs c M n told x disk replies (Keeps _ rest) fits holds known tied may small h fine = absurd h
first_outputs c M n told x disk replies (Falls why) fits holds known tied may small h fine = inr (behind c M n told x disk replies (Falls why) fits holds known tied may small h fine)

-- ---- the message

ack_text_first : (c : Cluster) (n : ℕ) (x : UpNode) (p : Presidency) (first : Option Arrived) (text : Option (List ℕ)) → AcksFirst (joined c n x (cuts.acknowledging_text_course c n x p first text) (handling_course c n))
ack_text_first c n x p (Some a) (Some text) =
    let y : UpNode = changed c n x (cuts.acks_of c n x p a text) in
    any_p false c n y (Acts (Spreads (others_of n x) (body.Commit (session_of x) (last_place x))) (Acts (Gives (answer_given n x a answer.Ok)) (deciding_course c n y))) (handling_course c n)
    (tt, (tt, deciding_p false c n y)) (λ z u. handling_p u c n z)
ack_text_first c n x p None text = saves_first (handling_course c n x) (handling_p false c n x)
ack_text_first c n x p (Some a) None = saves_first (handling_course c n x) (handling_p false c n x)

ack_first : (c : Cluster) (n : ℕ) (x : UpNode) (o : Option Presidency) → AcksFirst (joined c n x (cuts.acknowledging_by_course c n x o) (handling_course c n))
ack_first c n x None = saves_first (handling_course c n x) (handling_p false c n x)
ack_first c n x (Some p) = ack_text_first c n x p (first_in p.proposals.arrived) (record_of x).entries.pending

prepared_at_first : (c : Cluster) (n : ℕ) (x : UpNode) (from place : ℕ) (o : Option Presidency) → AcksFirst (cuts.prepared_at_course c n x from place o)
prepared_at_first c n x from place None = tt
prepared_at_first c n x from place (Some p) =
    let y : UpNode = with_proposals x p (prepared_by p.proposals from place) in
    if_either AcksFirst (is_prepared (prepared_by p.proposals from place)) (joined c n y (acknowledging_course c n y) (handling_course c n)) Stops (ack_first c n y y.presidency) tt

body_first : (c : Cluster) (n : ℕ) (ends : method.Outcome) (x : UpNode) (from : ℕ) (m : Message) (b : Body) → asks_to_acknowledge (named (name_of b)) ≡ true → AcksFirst (cuts.body_course c n ends x from m b)
body_first c n ends x from m (body.Prepared e place) acks =
    if_either AcksFirst (is_of_member x from e) (cuts.prepared_at_course c n x from place x.presidency) Stops (prepared_at_first c n x from place x.presidency) tt
body_first c n ends x from m _ acks = absurd (not_so acks)

message_first : (c : Cluster) (n now : ℕ) (ends : method.Outcome) (x : UpNode) (from : ℕ) (m : Message) → asks_to_acknowledge (named (name_of m.body)) ≡ true → AcksFirst (course_at c n now ends x (input.Packet from m))
message_first c n now ends x from m acks =
    let y : UpNode = at_second now x in
    if_either AcksFirst (is_foreign c n y m.body) Stops (Acts (Hears from m.body) (cuts.body_course c n ends (hearing y from m.body) from m m.body)) tt (body_first c n ends (hearing y from m.body) from m m.body acks)

pub step_first : (c : Cluster) (M : Memberships) (n now : ℕ) (ends : method.Outcome) (from : ℕ) (m : Message) (x : UpNode) (disk : DiskState) → n ≤ 32 → All IsDevice c.attached → Holds (setting_of c) M
    → IsTrue M (input.Packet from m) → Stands c M n (Up x) disk.kept → asks_to_acknowledge (named (name_of m.body)) ≡ true → GoesFine true (course_at c n now ends x (input.Packet from m))
    → AtOnceOr (Pends x) n (stepped disk_rules c n now ends (Up x) disk (input.Packet from m)).given
step_first c M n now ends from m x disk low fits holds so stands acks fine =
    let i : Input = input.Packet from m in
    let cut : IsCut disk_rules c n now ends (Up x) disk i [] (stepped disk_rules c n now ends (Up x) disk i) = steps_are_cut disk_rules disks_keep_rules c n now ends (Up x) disk i in
    subst (AtOnceOr (Pends x) n) cut.comes.given
    (first_outputs c M n (delivered_by i) x disk.kept cut.replies (course_at c n now ends x i) fits holds (known_by M i so) stands.tied
    (step_may c M n now ends (Up x) disk.kept i cut.replies low fits holds stands.tied stands.joins) (doings_small c n now ends cut.replies i (Up x) disk.kept) (message_first c n now ends x from m acks) fine)
