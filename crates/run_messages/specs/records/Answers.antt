-- What the guards of `refinement` do not say of what is sent: a Promise answers the Collect that is delivered, a Collect
-- goes to a member of the attempt, and what is sent to many is no message of an attempt.
use Rattle.std.specs.Prelude.{ℕ, ◌≡◌, ◌==◌, true, List, [], ◌∷◌, Option}
use Rattle.std.specs.List.{list_any}
use Rattle.cmm_attempt.specs.Attempts.{AttemptState}
use Rattle.cmm_attempt.specs.declared.step.Step.{Step}
use Rattle.cmm_attempt.specs.declared.step.Step.TheVariants as step
use Rattle.wire.specs.declared.message.Body.{Body}
use Rattle.wire.specs.declared.message.Body.TheVariants as body
use Rattle.node_model.specs.declared.cluster.Cluster.{Cluster}
use Rattle.node_model.specs.declared.node.UpNode.{UpNode}
use Rattle.refinement.specs.Courses.{Course}
use Rattle.refinement.specs.Courses.Course.{Acts, Falls as Course_falls, Keeps, Stops}
use Rattle.refinement.specs.Doings.{Act, Doing, Site, acted, changed, effect}
use Rattle.refinement.specs.Doings.Act.{Makes, Spreads, Writes}
use Rattle.refinement.specs.Doings.Doing.{Does}
use Rattle.run_history.specs.Guards.{MadeAt}
use Rattle.refinement.specs.Guards.{Asks, OfAttempt, OfUp, Says}
use Rattle.refinement.specs.Ties.{Delivered}

-- ---- the steps of an attempt

-- no Collect and no Promise
abbrev pub IsNoAsking : Body → Type 0
IsNoAsking (body.Collect p members) = ⊥
IsNoAsking (body.Promise p newest members valid flagged committed pending) = ⊥
IsNoAsking b = Unit {0}

abbrev pub AskNothing : List Step → Type 0
AskNothing [] = Unit {0}
AskNothing (step.Send to m ∷ steps) = IsNoAsking m.body × AskNothing steps
AskNothing (s ∷ steps) = AskNothing steps

-- the node is a member of the attempt
abbrev pub IsAmong : ℕ → AttemptState → Type 0
IsAmong to a = list_any (λ k. k == to) a.plan.nodes ≡ true

abbrev pub IsCollectTo : Option AttemptState → ℕ → Body → Type 0
IsCollectTo o to (body.Collect p members) = OfAttempt (IsAmong to) o
IsCollectTo o to b = ⊥

-- Collects alone
abbrev pub AreCollects : Option AttemptState → List Step → Type 0
AreCollects o [] = Unit {0}
AreCollects o (step.Send to m ∷ steps) = IsCollectTo o to m.body × AreCollects o steps
AreCollects o (s ∷ steps) = ⊥

-- the node's own install or start
abbrev pub IsOneself : Step → Type 0
IsOneself (step.InstallHere i) = Unit {0}
IsOneself step.StartHere = Unit {0}
IsOneself s = ⊥

-- ---- what a node sends

-- no Collect, no Promise and no Install
abbrev pub IsOrdinary : Body → Type 0
IsOrdinary (body.Collect p members) = ⊥
IsOrdinary (body.Promise p newest members valid flagged committed pending) = ⊥
IsOrdinary (body.Install i) = ⊥
IsOrdinary b = Unit {0}

abbrev pub BodyTold : Delivered → UpNode → ℕ → Body → Type 0
BodyTold told x to (body.Collect p members) = OfAttempt (IsAmong to) x.attempt
BodyTold told x to (body.Promise p newest members valid flagged committed pending) = Says (Asks p) told
BodyTold told x to b = Unit {0}

abbrev pub ActTold : Delivered → UpNode → Act → Type 0
ActTold told x (Writes to b) = BodyTold told x to b
ActTold told x (Spreads receivers b) = IsOrdinary b
ActTold told x (Makes change) = MadeAt change
ActTold told x a = Unit {0}

abbrev pub GoesTold : Cluster → ℕ → Delivered → UpNode → Course → Type 0
GoesTold c me told x Stops = Unit {0}
GoesTold c me told x (Acts a rest) = ActTold told x a × GoesTold c me told (acted c me x a) rest
GoesTold c me told x (Keeps change rest) = Unit {0} × GoesTold c me told (changed c me x change) rest
GoesTold c me told x (Course_falls why) = Unit {0}

abbrev pub DoingTold : Delivered → Site → Doing → Type 0
DoingTold told x (Does a) = OfUp (λ y. ActTold told y a) x.node
DoingTold told x d = Unit {0}

abbrev pub AllTold : Cluster → ℕ → Delivered → Site → List Doing → Type 0
AllTold c me told x [] = Unit {0}
AllTold c me told x (d ∷ ds) = DoingTold told x d × AllTold c me told (effect c me x d) ds
