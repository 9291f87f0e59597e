-- Where a node says that it is ready: only where it has nothing left to join.
use Rattle.std.specs.Prelude.{ℕ, ◌≡◌, false, List, [], ◌∷◌}
use Rattle.cmm_attempt.specs.Calls.{Call, Own_ready}
use Rattle.device_queue.specs.Queue.{joins}
use Rattle.node_model.specs.declared.cluster.Cluster.{Cluster}
use Rattle.node_model.specs.declared.node.UpNode.{UpNode}
use Rattle.refinement.specs.Courses.{Course}
use Rattle.refinement.specs.Courses.Course.{Acts, Falls, Keeps, Stops}
use Rattle.refinement.specs.Doings.{Act, Change, Doing, Site, acted, changed, effect}
use Rattle.refinement.specs.Doings.Act.{Goes_on, Makes, Spreads, Writes}
use Rattle.refinement.specs.Doings.Change.{Counts, Starts}
use Rattle.refinement.specs.Doings.Doing.{Does, Saves}
use Rattle.refinement.specs.Guards.{OfUp}
use Rattle.wire.specs.declared.message.Body.{Body}
use Rattle.wire.specs.declared.message.Body.TheVariants as body

-- ---- it does not say so

abbrev pub BodyNone : Body → Type 0
BodyNone (body.Ready e devices report) = ⊥
BodyNone b = Unit {0}

abbrev pub CallNone : Call → Type 0
CallNone Own_ready = ⊥
CallNone k = Unit {0}

abbrev pub ChangeNone : Change → Type 0
ChangeNone (Counts a k s i) = CallNone k
ChangeNone (Starts a k s) = CallNone k
ChangeNone change = Unit {0}

abbrev pub ActNone : Act → Type 0
ActNone (Goes_on a k) = CallNone k
ActNone (Writes to b) = BodyNone b
ActNone (Spreads receivers b) = BodyNone b
ActNone (Makes change) = ChangeNone change
ActNone a = Unit {0}

abbrev pub NoReady : Course → Type 0
NoReady Stops = Unit {0}
NoReady (Acts a rest) = ActNone a × NoReady rest
NoReady (Keeps change rest) = ChangeNone change × NoReady rest
NoReady (Falls why) = Unit {0}

-- ---- it says so where it joins nothing more

abbrev pub BodyReady : UpNode → Body → Type 0
BodyReady x (body.Ready e devices report) = joins x.tasks ≡ false
BodyReady x b = Unit {0}

abbrev pub CallReady : UpNode → Call → Type 0
CallReady x Own_ready = joins x.tasks ≡ false
CallReady x k = Unit {0}

abbrev pub ChangeReady : UpNode → Change → Type 0
ChangeReady x (Counts a k s i) = CallReady x k
ChangeReady x (Starts a k s) = CallReady x k
ChangeReady x change = Unit {0}

abbrev pub ActReady : UpNode → Act → Type 0
ActReady x (Goes_on a k) = CallReady x k
ActReady x (Writes to b) = BodyReady x b
ActReady x (Spreads receivers b) = BodyReady x b
ActReady x (Makes change) = ChangeReady x change
ActReady x a = Unit {0}

abbrev pub GoesReady : Cluster → ℕ → UpNode → Course → Type 0
GoesReady c me x Stops = Unit {0}
GoesReady c me x (Acts a rest) = ActReady x a × GoesReady c me (acted c me x a) rest
GoesReady c me x (Keeps change rest) = ChangeReady x change × GoesReady c me (changed c me x change) rest
GoesReady c me x (Falls why) = Unit {0}

abbrev pub DoingReady : Site → Doing → Type 0
DoingReady x (Does a) = OfUp (λ y. ActReady y a) x.node
DoingReady x (Saves change) = OfUp (λ y. ChangeReady y change) x.node
DoingReady x d = Unit {0}

abbrev pub AllReady : Cluster → ℕ → Site → List Doing → Type 0
AllReady c me x [] = Unit {0}
AllReady c me x (d ∷ ds) = DoingReady x d × AllReady c me (effect c me x d) ds
