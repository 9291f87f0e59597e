-- When a node may take a small step at devices, beside what refinement asks: by its own state, the delivered packet,
-- and the steps that its attempt gave last.
use Rattle.std.specs.Prelude.{ℕ, ◌≡◌, ◌≢◌, ◌<◌, ◌⊎◌, true, List, [], ◌∷◌, Option, None, Some}
use Rattle.attempt_laws.specs.Staying.{IsBefore}
use Rattle.cl_base.specs.Seizings.{SeizeResult}
use Rattle.cl_base.specs.Sets.{has}
use Rattle.cl_base.specs.declared.seizing.SeizeEnd.TheVariants.{Fault}
use Rattle.cmm_attempt.specs.Attempts.{Turn}
use Rattle.cmm_attempt.specs.Calls.{Call, Own_ready, Own_seized, Take, Tick, With_votes, turn}
use Rattle.cmm_attempt.specs.declared.step.Step.{Step}
use Rattle.cmm_attempt.specs.declared.step.Step.TheVariants as step
use Rattle.device_queue.specs.Queue.{begins_plainly}
use Rattle.device_queue.specs.Tasks.{result_in}
use Rattle.device_queue.specs.declared.task.Task.{Task}
use Rattle.node_model.specs.Seats.{installed_of, record_of, session_of}
use Rattle.node_model.specs.declared.cluster.Cluster.{Cluster}
use Rattle.node_model.specs.declared.node.UpNode.{UpNode}
use Rattle.refinement.specs.Courses.{Course}
use Rattle.refinement.specs.Courses.Course.{Acts, Falls, Keeps, Stops}
use Rattle.refinement.specs.Doings.{Act, Change, Doing, Site, acted, changed, effect}
use Rattle.refinement.specs.Doings.Act.{Accepts, Goes_on, Makes, Queues, Spreads, Takes, Writes}
use Rattle.refinement.specs.Doings.Change.{Admits, Counts, Distrusts, Sits, Starts}
use Rattle.refinement.specs.Doings.Doing.{Comes_up, Does, Forgets, Goes_down, Loses, Saves}
use Rattle.refinement.specs.Guards.{OfUp, Says}
use Rattle.refinement.specs.Ties.{Delivered}
use Rattle.seize.specs.declared.kind.SeizeKind.{SeizeKind}
use Rattle.seize.specs.declared.kind.SeizeKind.TheVariants.{Plain, Vote}
use Rattle.wire.specs.Spelling.{IsDevice}
use Rattle.wire.specs.declared.message.Body.{Body}
use Rattle.wire.specs.declared.message.Body.TheVariants as body
use Rattle.wire.specs.declared.message.Message.{Message}

-- the turn of the attempt that gave its last steps
abbrev pub Hand : Type 0
Hand = Option Turn

abbrev pub InHand : (Turn → Type 0) → Hand → Type 0
InHand P None = ⊥
InHand P (Some u) = P u

abbrev pub IsStep : Step → List Step → Type 0
IsStep s [] = ⊥
IsStep s (x ∷ steps) = (x ≡ s) ⊎ IsStep s steps

-- the message is among the steps
pub record SendsSo (steps : List Step) (to : ℕ) (b : Body) : Type 0 where
  pub message : Message
  pub body_so : message.body ≡ b
  pub step_so : IsStep (step.Send to message) steps

-- a seizing of device d ended so
abbrev pub HasEnded : List Task → ℕ → SeizeResult → Type 0
HasEnded [] d r = ⊥
HasEnded (t ∷ tasks) d r = ((t.device ≡ d) × (result_in t.work ≡ Some r)) ⊎ HasEnded tasks d r

-- a request to seize device d for attempt e
abbrev pub IsSeizeOf : ℕ → ℕ → Body → Type 0
IsSeizeOf e d (body.SeizeQuorum p members x) = (p ≡ e) × (x ≡ d)
IsSeizeOf e d (body.SeizeData p members x) = (p ≡ e) × (x ≡ d)
IsSeizeOf e d _ = ⊥

abbrev pub request_as : SeizeKind → ℕ → ℕ → ℕ → Body
request_as Vote e members d = body.SeizeQuorum e members d
request_as Plain e members d = body.SeizeData e members d

-- how a seizing ended is of the session, and kept; or a request comes after the attempt was installed, and is answered
-- by a fault
abbrev pub TellsEnd : Delivered → UpNode → ℕ → ℕ → SeizeResult → Type 0
TellsEnd told x e d r =
    ((e ≡ session_of x) × HasEnded x.tasks d r) ⊎ ((r ≡ Fault) × (0 < e) × (e ≡ installed_of x) × Says (IsSeizeOf e d) told)

abbrev pub AtWrite : Delivered → Hand → UpNode → ℕ → Body → Type 0
AtWrite told h x to (body.SeizeQuorum e members d) = InHand (λ u. SendsSo u.steps to (body.SeizeQuorum e members d)) h
AtWrite told h x to (body.SeizeData e members d) = InHand (λ u. SendsSo u.steps to (body.SeizeData e members d)) h
AtWrite told h x to (body.Seized e d r) = TellsEnd told x e d r
AtWrite told h x to _ = Unit {0}

-- what tells nothing of devices
abbrev pub IsPlainBody : Body → Type 0
IsPlainBody (body.Promise epoch installed members valid flagged committed pending) = ⊥
IsPlainBody (body.SeizeQuorum e members d) = ⊥
IsPlainBody (body.SeizeData e members d) = ⊥
IsPlainBody (body.Seized e d r) = ⊥
IsPlainBody (body.Install i) = ⊥
IsPlainBody _ = Unit {0}

-- the own seizing of which a call tells has ended so
abbrev pub AtCall : UpNode → Call → Type 0
AtCall x (Own_seized d r) = HasEnded x.tasks d r
AtCall x (Take from m) = Unit {0}
AtCall x (With_votes both) = Unit {0}
AtCall x Own_ready = Unit {0}
AtCall x Tick = Unit {0}

-- An answer that admits is taken with its command, and so asks more than this.
abbrev pub AtChange : UpNode → Change → Type 0
AtChange x (Counts a k s i) = AtCall x k
AtChange x (Distrusts d) = IsDevice d × (begins_plainly x.tasks ≡ Some d) × (has (record_of x).valid d ≡ true)
AtChange x (Admits at command a d) = ⊥
AtChange x _ = Unit {0}

-- a change that may leave the record as it is
abbrev pub MadeAt : Change → Type 0
MadeAt (Starts a k s) = Unit {0}
MadeAt (Sits s e) = Unit {0}
MadeAt _ = ⊥

-- An answer of a device is taken with its command, and so asks more than this.
abbrev pub AtAct : ℕ → Delivered → Hand → UpNode → Act → Type 0
AtAct me told h x (Goes_on a k) = AtCall x k
AtAct me told h x (Queues a d kind) =
    InHand (λ u. (u.after ≡ a) × IsBefore a.phase × IsStep (step.SeizeHere d kind) u.steps) h
AtAct me told h x (Accepts kind e members d) =
    Says (λ b. b ≡ request_as kind e members d) told × (has members me ≡ true) × (0 < e) × (installed_of x ≢ e)
AtAct me told h x (Takes at command a) = ⊥
AtAct me told h x (Writes to b) = AtWrite told h x to b
AtAct me told h x (Spreads receivers b) = IsPlainBody b
AtAct me told h x (Makes change) = MadeAt change
AtAct me told h x _ = Unit {0}

-- the hand after a small step
abbrev pub hand_by : Hand → Act → Hand
hand_by h (Goes_on a k) = Some (turn a k)
hand_by h _ = h

-- so a course may go, and where the node is up at its end this holds
abbrev pub AtTo : Cluster → ℕ → Delivered → (Hand → UpNode → Type 0) → Hand → UpNode → Course → Type 0
AtTo c me told P h x Stops = P h x
AtTo c me told P h x (Acts a rest) = AtAct me told h x a × AtTo c me told P (hand_by h a) (acted c me x a) rest
AtTo c me told P h x (Keeps change rest) = AtChange x change × AtTo c me told P h (changed c me x change) rest
AtTo c me told P h x (Falls why) = Unit {0}

abbrev pub hand_after : Hand → Doing → Hand
hand_after h (Does a) = hand_by h a
hand_after h _ = h

abbrev pub AtDoing : ℕ → Delivered → Hand → Site → Doing → Type 0
AtDoing me told h x (Does a) = OfUp (λ y. AtAct me told h y a) x.node
AtDoing me told h x (Saves change) = OfUp (λ y. AtChange y change) x.node
AtDoing me told h x (Loses change why) = OfUp (λ y. AtChange y change) x.node
AtDoing me told h x (Forgets change why) = OfUp (λ y. AtChange y change) x.node
AtDoing me told h x Comes_up = Unit {0}
AtDoing me told h x (Goes_down why) = Unit {0}

-- each of these, one after another
abbrev pub AtAll : Cluster → ℕ → Delivered → Hand → Site → List Doing → Type 0
AtAll c me told h x [] = Unit {0}
AtAll c me told h x (d ∷ ds) = AtDoing me told h x d × AtAll c me told (hand_after h d) (effect c me x d) ds
