-- What a node does in memory, or sends, leaves it with devices of the cluster alone.
use Rattle.std.specs.Prelude.{ℕ, ◌≡◌, All, List, [], ◌∷◌, None, Some}
use Rattle.std.proofs.Common.{subst, inl, inr}
use Rattle.std.proofs.lemmas.List.Elements.{All-head, All-tail}
use Rattle.attempt_laws.proofs.Sends.{asks_are_entries}
use Rattle.attempt_laws.specs.Sending.{AsksEntry}
use Rattle.cl_base.specs.Sets.{has}
use Rattle.cl_base.specs.declared.header.Header.{Header}
use Rattle.cmm_attempt.proofs.Basics.{if_either}
use Rattle.cmm_attempt.specs.Attempts.{AttemptState, Turn}
use Rattle.cmm_attempt.specs.Calls.{turn}
use Rattle.cmm_attempt.specs.declared.step.Step.{Step}
use Rattle.cmm_attempt.specs.declared.step.Step.TheVariants as step
use Rattle.cmm_member.specs.Records.{NodeRecord}
use Rattle.device_queue.specs.Queue.{after_seize}
use Rattle.membership_machine.specs.State.{Memberships}
use Rattle.node_model.specs.Seats.{record_of}
use Rattle.node_model.specs.declared.cluster.Cluster.{Cluster}
use Rattle.node_model.specs.declared.node.Node.TheVariants.{Up}
use Rattle.node_model.specs.declared.node.UpNode.{UpNode}
use Rattle.node_model.specs.declared.output.Output.{Output}
use Rattle.refinement.proofs.Attempts.{may_be_called}
use Rattle.refinement.specs.Doings.{Act, Change, acted, changed, said, site}
use Rattle.refinement.specs.Doings.Act.{Accepts, Dates, Ends, Gives, Goes_on, Hears, Makes, Minds, Notes, Queues, Spreads, Stores, Takes, Ticks, Waits, Works, Writes}
use Rattle.refinement.specs.Guards.{MayAct, Says}
use Rattle.refinement.specs.Ties.{Delivered}
use Rattle.run_history.proofs.Changes.{At, at_attempt}
use Rattle.run_history.specs.Guards.{Hand, InHand, IsStep, MadeAt, hand_by, request_as}
use Rattle.run_seizings.proofs.Acts.{ActMay}
use Rattle.seize.specs.Seizing as seizing
use Rattle.seize.specs.Seizing.{SeizeState}
use Rattle.seize.specs.declared.kind.SeizeKind.{SeizeKind}
use Rattle.seize.specs.declared.kind.SeizeKind.TheVariants.{Plain, Vote}
use Rattle.wire.specs.declared.message.Body.{Body}
use Rattle.run_packets.specs.native.Named.{AttemptKnown, IsKnown}
use Rattle.run_packets.specs.admitted.Guards.{ActFor, ChangeFor}
use Rattle.run_packets.specs.admitted.Known.{AllKnown, BodyKnown, DevicesKnown, HandKnown, InDevices, Leaves, StepFew, TurnKnown, UpKnown}
use Rattle.run_packets.proofs.admitted.Changes.{change_known, turned_known}
use Rattle.run_packets.proofs.admitted.Lines.{made_known, nothing_known, sent_known, tick_known, write_known}
use Rattle.run_packets.proofs.admitted.Offices.{later_good}
use Rattle.run_packets.proofs.admitted.Tasks.{answer_known, begun_few, seize_known}
use Rattle.run_packets.proofs.admitted.Writes.{asks_known, spread_so, write_so}
use Rattle.refinement.specs.Doings.Change.{Sits, Starts}

abbrev pub ActLeaves : Cluster → ℕ → NodeRecord → UpNode → Hand → Act → Type 0
ActLeaves c n disk x g a = Leaves c (site (Up (acted c n x a)) disk) (hand_by g a) (said c n x a)

leaves : (c : Cluster) (disk : NodeRecord) (y : UpNode) (g : Hand) (os : List Output) → InDevices c disk.valid → UpKnown c y → TurnKnown c g → AllKnown c os → Leaves c (site (Up y) disk) g os
leaves c disk y g os kept k gave known = record { site_so = record { disk_so = kept; node_so = k }; turn_so = gave; outputs_so = known }

-- ---- the device that is to be seized

here_step : (t : AttemptState) (d : ℕ) (kind : SeizeKind) (steps : List Step) → IsStep (step.SeizeHere d kind) steps → All (AsksEntry t) steps → AsksEntry t (step.SeizeHere d kind)
here_step t d kind [] is all = absurd is
here_step t d kind (s ∷ steps) (inl same) all = subst (λ z. AsksEntry t z) same (All-head (AsksEntry t) s steps all)
here_step t d kind (s ∷ steps) (inr later) all = here_step t d kind steps later (All-tail (AsksEntry t) s steps all)

here_known : (c : Cluster) (d : ℕ) (kind : SeizeKind) (g : Hand) → InHand (λ (u : Turn). IsStep (step.SeizeHere d kind) u.steps) g → TurnKnown c g → IsKnown c d
here_known c d kind None is gave = absurd is
here_known c d kind (Some u) is gave = asks_known c u.after kind u.after.plan.coordinator d gave.0 (here_step u.after d kind u.steps is gave.1)

step_in : (g : Hand) (P Q : Turn → Type 0) → ((u : Turn) → P u → Q u) → InHand P g → InHand Q g
step_in None P Q f is = is
step_in (Some u) P Q f is = f u is

asked_for : (c : Cluster) (kind : SeizeKind) (e members d : ℕ) (b : Body) → b ≡ request_as kind e members d → BodyKnown c b → IsKnown c d
asked_for c Vote e members d b is k = subst (BodyKnown c) is k
asked_for c Plain e members d b is k = subst (BodyKnown c) is k

told_known : (c : Cluster) (kind : SeizeKind) (e members d : ℕ) (told : Delivered) → Says (λ b. b ≡ request_as kind e members d) told → HandKnown c told → IsKnown c d
told_known c kind e members d None says hand = absurd says
told_known c kind e members d (Some m) says hand = asked_for c kind e members d m.1.body says hand

-- with other tasks
tasks_with : (c : Cluster) (x : UpNode) (d : ℕ) (s : SeizeState) → IsKnown c d → StepFew s.step → UpKnown c x → UpKnown c (record x { tasks = after_seize x.tasks d s })
tasks_with c x d s is few k = record { state_so = k.state_so; tasks_so = seize_known c x.tasks d s is few k.tasks_so; attempt_so = k.attempt_so; office_so = k.office_so }

-- what is made without a save joins nothing
made_for : (c : Cluster) (x : UpNode) (ch : Change) → MadeAt ch → ChangeFor c x ch
made_for c x (Starts a k s) made = tt
made_for c x (Sits s e) made = tt
made_for c x _ made = absurd made

-- ---- each

pub act_leaves : (h : Header) (c : Cluster) (M : Memberships) (n : ℕ) (told : Delivered) (disk : NodeRecord) (x : UpNode) (g : Hand) (a : Act) → DevicesKnown c → At c M n told disk x
    → MayAct c n told x a → ActMay h n told g x a → ActFor c x a → HandKnown c told → TurnKnown c g → InDevices c disk.valid → UpKnown c x → ActLeaves c n disk x g a
act_leaves h c M n told disk x g (Hears from b) fixed at may guard for hand gave kept k = leaves c disk (acted c n x (Hears from b)) g [] kept k gave tt
act_leaves h c M n told disk x g Ticks fixed at may guard for hand gave kept k = leaves c disk (acted c n x Ticks) g (said c n x Ticks) kept
    (record { state_so = k.state_so; tasks_so = k.tasks_so; attempt_so = k.attempt_so; office_so = later_good x.presidency k.office_so }) gave (tt, tick_known c x)
act_leaves h c M n told disk x g Waits fixed at may guard for hand gave kept k = leaves c disk (acted c n x Waits) g [] kept k gave tt
act_leaves h c M n told disk x g (Goes_on a q) fixed at may guard for hand gave kept k =
    let known : AttemptKnown c (turn a q).after = turned_known c told x a q may.0 may.1 k in
    leaves c disk (acted c n x (Goes_on a q)) (Some (turn a q)) [] kept (record { state_so = k.state_so; tasks_so = k.tasks_so; attempt_so = known; office_so = k.office_so })
    (known, at_attempt c M n told disk x a (All (AsksEntry (turn a q).after) (turn a q).steps) at may.0 (λ s shows co. asks_are_entries a q co.reached (may_be_called c told a q may.1))) tt
act_leaves h c M n told disk x g (Ends a e) fixed at may guard for hand gave kept k =
    leaves c disk (acted c n x (Ends a e)) g (said c n x (Ends a e)) kept (record { state_so = k.state_so; tasks_so = k.tasks_so; attempt_so = tt; office_so = k.office_so }) gave (tt, tt)
act_leaves h c M n told disk x g (Queues a d kind) fixed at may guard for hand gave kept k =
    let s : SeizeState = seizing.begun kind a.plan.epoch a.plan.members n c.id (has (record_of x).valid d) in
    leaves c disk (acted c n x (Queues a d kind)) g [] kept
    (if_either (UpKnown c) (has a.plan.members n) (record x { tasks = after_seize x.tasks d s }) x
    (tasks_with c x d s (here_known c d kind g (step_in g _ (λ u. IsStep (step.SeizeHere d kind) u.steps) (λ u is. is.2) guard) gave) (begun_few kind) k) k) gave tt
act_leaves h c M n told disk x g (Accepts kind e members d) fixed at may guard for hand gave kept k =
    leaves c disk (acted c n x (Accepts kind e members d)) g [] kept
    (tasks_with c x d (seizing.begun kind e members n c.id (has (record_of x).valid d)) (told_known c kind e members d told guard.0 hand) (begun_few kind) k) gave tt
act_leaves h c M n told disk x g (Takes on command a) fixed at may guard for hand gave kept k =
    leaves c disk (acted c n x (Takes on command a)) g (said c n x (Takes on command a)) kept
    (record { state_so = k.state_so; tasks_so = answer_known c x.tasks a for k.tasks_so; attempt_so = k.attempt_so; office_so = k.office_so }) gave (tt, tt)
act_leaves h c M n told disk x g (Stores d value a) fixed at may guard for hand gave kept k = leaves c disk x g (said c n x (Stores d value a)) kept k gave (tt, write_known c n x d value a)
act_leaves h c M n told disk x g (Writes to b) fixed at may guard for hand gave kept k =
    leaves c disk x g (said c n x (Writes to b)) kept k gave (write_so c told g x to b hand k gave may guard for, tt)
act_leaves h c M n told disk x g (Makes change) fixed at may guard for hand gave kept k =
    leaves c disk (changed c n x change) g (said c n x (Makes change)) kept (change_known c M n told disk x change fixed at may.0 (made_for c x change guard) hand k) gave (made_known c n x change)
act_leaves h c M n told disk x g (Gives os) fixed at may guard for hand gave kept k = leaves c disk x g os kept k gave (nothing_known c os may for)
act_leaves h c M n told disk x g (Spreads receivers b) fixed at may guard for hand gave kept k =
    leaves c disk x g (said c n x (Spreads receivers b)) kept k gave (sent_known c receivers b (λ j. spread_so c j b guard for))
act_leaves h c M n told disk x g (Minds q p) fixed at may guard for hand gave kept k = leaves c disk (acted c n x (Minds q p)) g [] kept (record { state_so = k.state_so; tasks_so = k.tasks_so; attempt_so = k.attempt_so; office_so = for k.office_so }) gave tt
act_leaves h c M n told disk x g (Notes from place p) fixed at may guard for hand gave kept k = leaves c disk (acted c n x (Notes from place p)) g [] kept
    (record { state_so = k.state_so; tasks_so = k.tasks_so; attempt_so = k.attempt_so; office_so = for k.office_so }) gave tt
act_leaves h c M n told disk x g (Dates now) fixed at may guard for hand gave kept k = leaves c disk (acted c n x (Dates now)) g [] kept k gave tt
act_leaves h c M n told disk x g (Works w) fixed at may guard for hand gave kept k = leaves c disk (acted c n x (Works w)) g [] kept k gave tt
