-- What was told of devices stays so, and so does what is in hand.
use Rattle.std.specs.Prelude.{ℕ, ◌≡◌, List, [], ◌∷◌, ◌++◌, Option, None, Some}
use Rattle.std.proofs.Common.{sym, subst}
use Rattle.std.specs.List.{AllByRecursion}
use Rattle.cluster_machine.specs.Cluster.{Cluster as Whole}
use Rattle.cluster_ties.proofs.First.{in_order}
use Rattle.cluster_ties.proofs.Told.{told_of_stays}
use Rattle.cluster_ties.specs.Laws.{IsAskedTo}
use Rattle.cluster_ties.specs.Moves.{IsReached, Moves}
use Rattle.cmm_attempt.specs.Attempts.{AttemptState, install_in}
use Rattle.cmm_attempt.specs.declared.step.Step.{Step}
use Rattle.cmm_attempt.specs.declared.step.Step.TheVariants as step
use Rattle.membership_machine.proofs.Growth.{Goes, grows_over, grows_same}
use Rattle.membership_machine.proofs.Preserved.{event_keeps}
use Rattle.membership_machine.specs.Events.{Event, Run, after}
use Rattle.membership_machine.specs.Growth.{Grows}
use Rattle.membership_machine.specs.Invariant.{Holds}
use Rattle.membership_machine.specs.State.{Memberships}
use Rattle.membership_machine.specs.Votes.{Setting}
use Rattle.node_model.specs.declared.node.Node.{Node}
use Rattle.node_model.specs.declared.node.Node.TheVariants.{Down, Up}
use Rattle.node_model.specs.declared.output.Output.{Output}
use Rattle.node_model.specs.declared.output.Output.TheVariants.{Sends, Tells}
use Rattle.refinement.specs.Ties.{Delivered}
use Rattle.seize.specs.declared.kind.SeizeKind.{SeizeKind}
use Rattle.seize.specs.declared.kind.SeizeKind.TheVariants.{Plain, Vote}
use Rattle.wire.specs.declared.message.Body.TheVariants as body
use Rattle.run_history.specs.Guards.{Hand}
use Rattle.run_history.specs.Sites.{AllToldOf, HandAt, InstallsAt, KnownOf, OwnIn, StepSo}

pub whole_holds : (S : Setting) (W : Whole) → IsReached S W → Holds S W.memberships
whole_holds S W reached = (in_order S W reached).memberships

-- a state that these events lead to is one
pub run_same : (S : Setting) (M N L : Memberships) (events : List Event) → Run S M events N → Run S M events L → N ≡ L
run_same S M N L [] h k = subst (λ z. N ≡ z) (sym k) h
run_same S M N L (e ∷ events) h k = run_same S (after M e) N L events h.1 k.1

pub run_grows : (S : Setting) (M N : Memberships) (events : List Event) → Holds S M → Run S M events N → Grows M N
run_grows S M N [] holds h = subst (λ z. Grows M z) (sym h) (grows_same S M holds)
run_grows S M N (e ∷ events) holds h =
    let g : Goes S M (after M e) = event_keeps S M e holds h.0 in
    grows_over M (after M e) N g.grows (run_grows S (after M e) N events g.holds h.1)

pub known_of_stays : (S : Setting) (W V : Whole) (n k : ℕ) (told : Delivered) → IsReached S W → Moves S W n V → KnownOf W k told → KnownOf V k told
known_of_stays S W V n k None reached m h = tt
known_of_stays S W V n k (Some d) reached m h = told_of_stays S W V n d.0 k d.1.body reached m h

pub outputs_of_stay : (S : Setting) (W V : Whole) (n k : ℕ) (os : List Output) → IsReached S W → Moves S W n V → AllToldOf W k os → AllToldOf V k os
outputs_of_stay S W V n k [] reached m h = tt
outputs_of_stay S W V n k (Tells e ∷ os) reached m h = outputs_of_stay S W V n k os reached m h
outputs_of_stay S W V n k (Sends to b ∷ os) reached m h = (told_of_stays S W V n k to b reached m h.0, outputs_of_stay S W V n k os reached m h.1)

pub asked_to_stays : (S : Setting) (W V : Whole) (n k e members d : ℕ) (kind : SeizeKind) → IsReached S W → Moves S W n V → IsAskedTo (W.device d) e members k kind → IsAskedTo (V.device d) e members k kind
asked_to_stays S W V n k e members d Vote reached m h = told_of_stays S W V n k k (body.SeizeQuorum e members d) reached m h
asked_to_stays S W V n k e members d Plain reached m h = told_of_stays S W V n k k (body.SeizeData e members d) reached m h

step_stays : (S : Setting) (W V : Whole) (n k : ℕ) (t : AttemptState) (s : Step) → IsReached S W → Moves S W n V → StepSo W k t s → StepSo V k t s
step_stays S W V n k t (step.Send to m) reached moves h = λ r. told_of_stays S W V n k to m.body reached moves (h r)
step_stays S W V n k t (step.SeizeHere d kind) reached moves h = asked_to_stays S W V n k t.plan.epoch t.plan.members d kind reached moves h
step_stays S W V n k t (step.NeedVotes m) reached moves h = tt
step_stays S W V n k t (step.InstallHere i) reached moves h = tt
step_stays S W V n k t step.StartHere reached moves h = tt
step_stays S W V n k t (step.Ended e) reached moves h = tt

steps_stay : (S : Setting) (W V : Whole) (n k : ℕ) (t : AttemptState) (steps : List Step) → IsReached S W → Moves S W n V → AllByRecursion (StepSo W k t) steps → AllByRecursion (StepSo V k t) steps
steps_stay S W V n k t [] reached m h = tt
steps_stay S W V n k t (s ∷ steps) reached m h = (step_stays S W V n k t s reached m h.0, steps_stay S W V n k t steps reached m h.1)

pub hand_stays : (S : Setting) (W V : Whole) (n k : ℕ) (h : Hand) → IsReached S W → Moves S W n V → HandAt W k h → HandAt V k h
hand_stays S W V n k None reached m h = tt
hand_stays S W V n k (Some u) reached m h = steps_stay S W V n k u.after u.steps reached m h

pub installs_stay : (S : Setting) (W V : Whole) (n k : ℕ) (o : Option AttemptState) → IsReached S W → Moves S W n V → InstallsAt W k o → InstallsAt V k o
installs_stay S W V n k None reached m h = tt
installs_stay S W V n k (Some a) reached m h = λ is. told_of_stays S W V n k k (body.Install (install_in a)) reached m (h is)

pub own_stays : (S : Setting) (W V : Whole) (n k : ℕ) (node : Node) → IsReached S W → Moves S W n V → OwnIn W k node → OwnIn V k node
own_stays S W V n k Down reached m h = tt
own_stays S W V n k (Up x) reached m h = record { me = h.me; installs = installs_stay S W V n k x.attempt reached m h.installs }

pub told_of_append : (W : Whole) (n : ℕ) (os more : List Output) → AllToldOf W n os → AllToldOf W n more → AllToldOf W n (os ++ more)
told_of_append W n [] more h k = k
told_of_append W n (Tells e ∷ os) more h k = told_of_append W n os more h k
told_of_append W n (Sends to b ∷ os) more h k = (h.0, told_of_append W n os more h.1 k)
