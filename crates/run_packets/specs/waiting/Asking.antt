-- How the queue of a node's requests changes in a step, and that a request is sent as it becomes the oldest.
use Rattle.std.specs.Prelude.{ℕ, ◌≡◌, ◌⊎◌, ◌++◌, true, List, [], ◌∷◌, Option, None, Some, is_some}
use Rattle.admin_words.specs.Commands.{command_of}
use Rattle.history_setting.specs.Settings.{canonical_in}
use Rattle.node_model.specs.Seats.{coordinator_of, session_of, version_of}
use Rattle.node_model.specs.declared.cluster.Cluster.{Cluster}
use Rattle.node_model.specs.declared.input.Input.{Input}
use Rattle.node_model.specs.declared.input.Input.TheVariants.{Commanded}
use Rattle.node_model.specs.declared.node.UpNode.{UpNode}
use Rattle.node_model.specs.declared.presidency.Presidency.{Presidency}
use Rattle.refinement.specs.Courses.{Course}
use Rattle.refinement.specs.Courses.Course.{Acts, Falls, Keeps, Stops}
use Rattle.refinement.specs.Doings.{Act, Change, Doing, Site, acted, changed, effect, minded}
use Rattle.refinement.specs.Doings.Act.{Makes, Minds, Writes}
use Rattle.refinement.specs.Doings.Change.{Acks}
use Rattle.refinement.specs.Doings.Doing.{Does, Saves}
use Rattle.refinement.specs.Guards.{OfUp}
use Rattle.request_queue.specs.Queue.{Queue, answered, next_number, oldest}
use Rattle.request_queue.specs.declared.request.Request.{Request}
use Rattle.wire.specs.declared.message.Body.{Body}
use Rattle.wire.specs.declared.message.Body.TheVariants as body

-- ---- how the queue changes

-- the request has the canonical words of the command that came
abbrev pub HasWords : Cluster → Input → Request → Type 0
HasWords c (Commanded words) r = canonical_in (command_of (version_of c) words) ≡ Some r.text
HasWords c _ r = ⊥

pub data Move : Type 0 where
  Stays : Move
  Pops : (number : ℕ) → Move  -- the oldest is answered, if it has this number
  Joins : (r : Request) → Move

abbrev pub waiting_by : Move → Queue → List Request
waiting_by Stays q = q.waiting
waiting_by (Pops number) q = (answered q number).waiting
waiting_by (Joins r) q = q.waiting ++ r ∷ []

-- what joins has the last number, and is of a monitor or of the command that came
abbrev pub MayMove : Cluster → Input → Move → Queue → Type 0
MayMove c came (Joins r) after = (r.number ≡ after.asked) × (r.told ≡ true → HasWords c came r)
MayMove c came _ after = Unit {0}

pub record QueueGoes (c : Cluster) (came : Input) (before after : Queue) : Type 0 where
  pub move : Move
  pub waiting : after.waiting ≡ waiting_by move before
  pub asked : (after.asked ≡ before.asked) ⊎ (after.asked ≡ next_number before)
  pub may : MayMove c came move after

-- ---- the oldest request is sent

-- the message is the oldest request, to the president, and no tick came since
abbrev pub IsOldest : UpNode → ℕ → Body → Type 0
IsOldest y to b = (r : Request) × (oldest y.requests ≡ Some r) × (coordinator_of y ≡ Some to) × (b ≡ body.Request (session_of y) r.number r.text) × (y.requests.age ≡ 0)

abbrev pub SendsOldest : UpNode → Course → Type 0
SendsOldest y (Acts (Writes to b) rest) = IsOldest y to b
SendsOldest y _ = ⊥

abbrev pub SendsOldestIn : UpNode → List Doing → Type 0
SendsOldestIn y (Does (Writes to b) ∷ ds) = IsOldest y to b
SendsOldestIn y _ = ⊥

-- the node presides, or has the same oldest request as before, sent as many ticks ago, or none, or no president to send it to
abbrev pub NeedsNone : UpNode → Queue → Option Presidency → Type 0
NeedsNone x q p = (is_some p ≡ true) ⊎ ((oldest q ≡ oldest x.requests) × (q.age ≡ x.requests.age)) ⊎ (oldest q ≡ None) ⊎ (coordinator_of x ≡ None)

-- ---- courses

abbrev pub ChangeAsks : Cluster → Input → UpNode → Change → Type 0
ChangeAsks c came x (Acks s p q left text) = QueueGoes c came x.requests q
ChangeAsks c came x _ = Unit {0}

abbrev pub ActAsks : Cluster → Input → UpNode → Act → Course → Type 0
ActAsks c came x (Minds q p) rest = QueueGoes c came x.requests q × (NeedsNone x q p ⊎ SendsOldest (minded x q p) rest)
ActAsks c came x (Makes change) rest = ChangeAsks c came x change
ActAsks c came x _ rest = Unit {0}

abbrev pub GoesAsking : Cluster → ℕ → Input → UpNode → Course → Type 0
GoesAsking c me came x Stops = Unit {0}
GoesAsking c me came x (Acts a rest) = ActAsks c came x a rest × GoesAsking c me came (acted c me x a) rest
GoesAsking c me came x (Keeps change rest) = ChangeAsks c came x change × GoesAsking c me came (changed c me x change) rest
GoesAsking c me came x (Falls why) = Unit {0}

-- .. and small steps one after another
abbrev pub ActAsksIn : Cluster → Input → UpNode → Act → List Doing → Type 0
ActAsksIn c came x (Minds q p) ds = QueueGoes c came x.requests q × (NeedsNone x q p ⊎ SendsOldestIn (minded x q p) ds)
ActAsksIn c came x (Makes change) ds = ChangeAsks c came x change
ActAsksIn c came x _ ds = Unit {0}

abbrev pub DoingAsks : Cluster → Input → Site → Doing → List Doing → Type 0
DoingAsks c came x (Does a) ds = OfUp (λ y. ActAsksIn c came y a ds) x.node
DoingAsks c came x (Saves change) ds = OfUp (λ y. ChangeAsks c came y change) x.node
DoingAsks c came x _ ds = Unit {0}

abbrev pub AllAsk : Cluster → ℕ → Input → Site → List Doing → Type 0
AllAsk c me came x [] = Unit {0}
AllAsk c me came x (d ∷ ds) = DoingAsks c came x d ds × AllAsk c me came (effect c me x d) ds
