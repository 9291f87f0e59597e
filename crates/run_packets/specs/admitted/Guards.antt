-- What the guards of the small steps do not say of what is sent: an Install goes to a node of the attempt, a Ready tells what its sender has joined, and
-- what is joined is the device of a task. An answer of a device has its widths. An Answer can be read, and so can what a president keeps of them.
use Rattle.std.specs.Prelude.{ℕ, ◌≡◌, ◌==◌, true, List, [], ◌∷◌, Option, Some}
use Rattle.std.specs.List.{AllByRecursion, list_any}
use Rattle.cmm_attempt.specs.Attempts.{AttemptState}
use Rattle.cmm_attempt.specs.declared.step.Step.{Step}
use Rattle.cmm_attempt.specs.declared.step.Step.TheVariants as step
use Rattle.node_model.specs.Seats.{state_of}
use Rattle.node_model.specs.declared.cluster.Cluster.{Cluster}
use Rattle.node_model.specs.declared.node.UpNode.{UpNode}
use Rattle.refinement.specs.node_widths.Widths.{AnswerFits}
use Rattle.node_model.specs.declared.output.Output.{Output}
use Rattle.node_model.specs.declared.output.Output.TheVariants.{Sends, Tells}
use Rattle.node_model.specs.declared.presidency.Presidency.{Presidency}
use Rattle.refinement.specs.Courses.{Course}
use Rattle.refinement.specs.Courses.Course.{Acts, Falls as Course_falls, Keeps, Stops}
use Rattle.refinement.specs.Doings.{Act, Change, Doing, Site, acted, changed, effect}
use Rattle.refinement.specs.Doings.Act.{Gives, Minds, Notes, Spreads, Takes, Writes}
use Rattle.refinement.specs.Doings.Change.{Acks, Admits, Proposes}
use Rattle.refinement.specs.Doings.Doing.{Does, Saves, Loses}
use Rattle.refinement.specs.Guards.{OfAttempt, OfUp}
use Rattle.run_packets.specs.native.Named.{IsKnown}
use Rattle.run_packets.specs.admitted.Known.{AnswersGood, TasksKnown}
use Rattle.run_packets.specs.admitted.Refusals.{IsReadable}
use Rattle.wire.specs.declared.message.Body.{Body}
use Rattle.wire.specs.declared.message.Body.TheVariants as body

-- ---- the steps of an attempt

-- no Install, no Ready and no Answer
abbrev pub IsNoInstall : Body → Type 0
IsNoInstall (body.Install i) = ⊥
IsNoInstall (body.Ready e joined report) = ⊥
IsNoInstall (body.Answer e number text) = ⊥
IsNoInstall b = Unit {0}

abbrev pub NoInstalls : List Step → Type 0
NoInstalls [] = Unit {0}
NoInstalls (step.Send to m ∷ steps) = IsNoInstall m.body × NoInstalls steps
NoInstalls (s ∷ steps) = NoInstalls steps

-- the node is one of the attempt
abbrev pub IsAmong : ℕ → AttemptState → Type 0
IsAmong to a = list_any (λ k. k == to) a.plan.nodes ≡ true

abbrev pub IsInstallTo : Option AttemptState → ℕ → Body → Type 0
IsInstallTo o to (body.Install i) = OfAttempt (IsAmong to) o
IsInstallTo o to b = ⊥

-- Installs alone
abbrev pub AreInstalls : Option AttemptState → List Step → Type 0
AreInstalls o [] = Unit {0}
AreInstalls o (step.Send to m ∷ steps) = IsInstallTo o to m.body × AreInstalls o steps
AreInstalls o (step.InstallHere i ∷ steps) = AreInstalls o steps
AreInstalls o (s ∷ steps) = ⊥

-- ---- what a node sends, and what it joins

abbrev pub BodyFor : UpNode → ℕ → Body → Type 0
BodyFor x to (body.Install i) = OfAttempt (IsAmong to) x.attempt
BodyFor x to (body.Ready e joined report) = joined ≡ (state_of x.seat).joined
BodyFor x to (body.Answer e number text) = AnswersGood x.presidency → IsReadable text
BodyFor x to b = Unit {0}

-- an Answer can be read
abbrev pub BodyGood : Body → Type 0
BodyGood (body.Answer e number text) = IsReadable text
BodyGood b = Unit {0}

abbrev pub OutputGood : Output → Type 0
OutputGood (Tells e) = Unit {0}
OutputGood (Sends to b) = BodyGood b

abbrev pub AllGood : List Output → Type 0
AllGood os = AllByRecursion OutputGood os

-- what is kept next can be read where what is kept can
abbrev pub KeepsGood : UpNode → Option Presidency → Type 0
KeepsGood x p = AnswersGood x.presidency → AnswersGood p

abbrev pub ActFor : Cluster → UpNode → Act → Type 0
ActFor c x (Writes to b) = BodyFor x to b
ActFor c x (Spreads receivers b) = IsNoInstall b
ActFor c x (Takes at command a) = AnswerFits a
ActFor c x (Gives os) = AllGood os
ActFor c x (Minds q p) = KeepsGood x p
ActFor c x (Notes from place p) = KeepsGood x (Some p)
ActFor c x a = Unit {0}

abbrev pub ChangeFor : Cluster → UpNode → Change → Type 0
ChangeFor c x (Admits at command a d) = AnswerFits a × (TasksKnown c x.tasks → IsKnown c d)
ChangeFor c x (Proposes s p text) = KeepsGood x (Some p)
ChangeFor c x (Acks s p q left text) = KeepsGood x (Some left)
ChangeFor c x change = Unit {0}

abbrev pub GoesFor : Cluster → ℕ → UpNode → Course → Type 0
GoesFor c me x Stops = Unit {0}
GoesFor c me x (Acts a rest) = ActFor c x a × GoesFor c me (acted c me x a) rest
GoesFor c me x (Keeps change rest) = ChangeFor c x change × GoesFor c me (changed c me x change) rest
GoesFor c me x (Course_falls why) = Unit {0}

abbrev pub DoingFor : Cluster → Site → Doing → Type 0
DoingFor c x (Does a) = OfUp (λ y. ActFor c y a) x.node
DoingFor c x (Saves change) = OfUp (λ y. ChangeFor c y change) x.node
DoingFor c x (Loses change why) = OfUp (λ y. ChangeFor c y change) x.node
DoingFor c x d = Unit {0}

abbrev pub AllFor : Cluster → ℕ → Site → List Doing → Type 0
AllFor c me x [] = Unit {0}
AllFor c me x (d ∷ ds) = DoingFor c x d × AllFor c me (effect c me x d) ds
