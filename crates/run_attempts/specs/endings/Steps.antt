-- What the guards of `refinement` do not say of ends and of Nacks: an attempt ends by the Nack that is delivered, or for want of an answer in a
-- tick; a Nack answers the Collect or the Install that is delivered; and no attempt begins where something is delivered.
use Rattle.std.specs.Prelude.{ℕ, ◌<◌, ◌≡◌, ◌≢◌, ◌≤◌, Bool, true, false, List, [], ◌∷◌, None, Some, is_some, ◌==◌, nat_le}
use Rattle.std.specs.List.{AllByRecursion, list_any}
use Rattle.cmm_attempt.specs.Attempts.{AttemptState}
use Rattle.cmm_attempt.specs.Calls.{Call, Own_ready, Own_seized, Take, Tick as Call_tick, With_votes}
use Rattle.cmm_attempt.specs.declared.step.AttemptEnd.{AttemptEnd}
use Rattle.cmm_attempt.specs.declared.step.AttemptEnd.TheVariants as end
use Rattle.cmm_attempt.specs.declared.step.Step.{Step}
use Rattle.cmm_attempt.specs.declared.step.Step.TheVariants as step
use Rattle.wire.specs.declared.message.Body.{Body}
use Rattle.wire.specs.declared.message.Body.TheVariants as body
use Rattle.node_model.specs.Seats.{promised_of, session_of}
use Rattle.node_model.specs.declared.cluster.Cluster.{Cluster}
use Rattle.node_model.specs.declared.input.Input.{Input}
use Rattle.node_model.specs.declared.input.Input.TheVariants.{Tick}
use Rattle.node_model.specs.declared.node.UpNode.{UpNode}
use Rattle.refinement.specs.Courses.{Course}
use Rattle.refinement.specs.Courses.Course.{Acts, Falls, Keeps, Stops}
use Rattle.refinement.specs.Doings.{Act, Change, Doing, Site, acted, changed, effect}
use Rattle.refinement.specs.Doings.Act.{Ends, Goes_on, Makes, Spreads, Writes}
use Rattle.refinement.specs.Doings.Change.{Counts, Leads, Starts}
use Rattle.refinement.specs.Doings.Doing.{Does, Saves}
use Rattle.refinement.specs.Guards.{OfUp, Says}
use Rattle.refinement.specs.Ties.{Delivered}

-- ---- the steps of an attempt

abbrev pub HasMember : AttemptState → ℕ → Type 0
HasMember a m = list_any (λ k. k == m) a.plan.nodes ≡ true

-- why an attempt ends: by what comes to its node, or once it was given votes
abbrev pub EndSo : Delivered → Bool → AttemptState → AttemptEnd → Type 0
EndSo told ticks a (end.Superseded q) = Says (λ b. b ≡ body.Nack a.plan.epoch q) told
EndSo told ticks a (end.Silent m) = (ticks ≡ true) × HasMember a m × (nat_le 8 a.ticks ≡ true)
EndSo told ticks a (end.Votes have need lacking) = (have < need) × (is_some a.votes ≡ true)
EndSo told ticks a (end.Foreign m) = (is_some a.votes ≡ true) × HasMember a m
EndSo told ticks a (end.Excluded m) = HasMember a m

abbrev pub NoNack : Body → Type 0
NoNack (body.Nack e q) = ⊥
NoNack _ = Unit {0}

abbrev pub StepFits : Delivered → Bool → AttemptState → Step → Type 0
StepFits told ticks a (step.Ended why) = EndSo told ticks a why
StepFits told ticks a (step.Send to m) = NoNack m.body
StepFits told ticks a _ = Unit {0}

abbrev pub StepsFit : Delivered → Bool → AttemptState → List Step → Type 0
StepsFit told ticks a steps = AllByRecursion (StepFits told ticks a) steps

-- an attempt takes the message that is delivered, and its ticks are the node's
abbrev pub CallFits : Delivered → Bool → Call → Type 0
CallFits told ticks (Take from m) = told ≡ Some (from, m)
CallFits told ticks Call_tick = ticks ≡ true
CallFits told ticks (With_votes both) = Unit {0}
CallFits told ticks (Own_seized d r) = Unit {0}
CallFits told ticks Own_ready = Unit {0}

-- ---- what a node does

-- it is asked to promise e, or to install it
abbrev pub IsAsked : ℕ → Body → Type 0
IsAsked e (body.Collect f members) = f ≡ e
IsAsked e (body.Install i) = i.epoch ≡ e
IsAsked e _ = ⊥

abbrev pub BodyFits : Delivered → UpNode → Body → Type 0
BodyFits told x (body.Nack e q) = Says (IsAsked e) told × (q ≡ promised_of x) × (e ≤ q) × (0 < e → e ≡ q → session_of x ≢ q)
BodyFits told x _ = Unit {0}

abbrev pub ChangeFits : Delivered → Bool → Change → Type 0
ChangeFits told ticks (Leads p members) = told ≡ None
ChangeFits told ticks (Counts a k s i) = CallFits told ticks k
ChangeFits told ticks (Starts a k s) = CallFits told ticks k
ChangeFits told ticks _ = Unit {0}

abbrev pub ActFits : Delivered → Bool → UpNode → Act → Type 0
ActFits told ticks x (Ends a why) = (x.attempt ≡ Some a) × EndSo told ticks a why
ActFits told ticks x (Writes to b) = BodyFits told x b
ActFits told ticks x (Spreads receivers b) = BodyFits told x b
ActFits told ticks x (Makes change) = ChangeFits told ticks change
ActFits told ticks x (Goes_on a k) = CallFits told ticks k
ActFits told ticks x _ = Unit {0}

abbrev pub GoesFit : Cluster → ℕ → Delivered → Bool → UpNode → Course → Type 0
GoesFit c me told ticks x Stops = Unit {0}
GoesFit c me told ticks x (Acts a rest) = ActFits told ticks x a × GoesFit c me told ticks (acted c me x a) rest
GoesFit c me told ticks x (Keeps change rest) = ChangeFits told ticks change × GoesFit c me told ticks (changed c me x change) rest
GoesFit c me told ticks x (Falls why) = Unit {0}

abbrev pub DoingFits : Delivered → Bool → Site → Doing → Type 0
DoingFits told ticks x (Does a) = OfUp (λ y. ActFits told ticks y a) x.node
DoingFits told ticks x (Saves change) = ChangeFits told ticks change
DoingFits told ticks x _ = Unit {0}

abbrev pub AllFit : Cluster → ℕ → Delivered → Bool → Site → List Doing → Type 0
AllFit c me told ticks x [] = Unit {0}
AllFit c me told ticks x (d ∷ ds) = DoingFits told ticks x d × AllFit c me told ticks (effect c me x d) ds

-- its clock ticks
abbrev pub ticks_in : Input → Bool
ticks_in Tick = true
ticks_in i = false
