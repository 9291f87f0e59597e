-- Which seizings may end so that their node is not registered: those for votes alone. What is kept of tasks, of attempts, and of all that was ever sent.
use Rattle.std.specs.Prelude.{ℕ, ◌%◌, ◌≡◌, ◌≢◌, ◌≤◌, List, Option, None, Some}
use Rattle.std.specs.List.{AllByRecursion}
use Rattle.cl_base.specs.declared.seizing.SeizeEnd.TheVariants.{NotRegistered}
use Rattle.cmm_attempt.specs.Attempts.{AttemptState}
use Rattle.cmm_attempt.specs.declared.seizing.Seizing.{Seizing}
use Rattle.cmm_attempt.specs.declared.step.Step.TheVariants as steps
use Rattle.device_queue.specs.declared.task.Task.{Task}
use Rattle.device_queue.specs.declared.task.Work.{Work}
use Rattle.device_queue.specs.declared.task.Work.TheVariants.{Joining as Joins, Seizing as Seizes}
use Rattle.node_model.specs.Seats.{session_of}
use Rattle.node_model.specs.declared.node.Node.{Node}
use Rattle.node_model.specs.declared.node.Node.TheVariants.{Down, Up}
use Rattle.node_model.specs.declared.node.UpNode.{UpNode}
use Rattle.refinement.specs.Doings.{Doing, Site}
use Rattle.refinement.specs.Doings.Act.{Makes}
use Rattle.refinement.specs.Doings.Change.{Starts}
use Rattle.refinement.specs.Doings.Doing.{Does, Saves}
use Rattle.refinement.specs.Runs.{IsAmong, Letter}
use Rattle.run_history.specs.Guards.{Hand, IsStep}
use Rattle.run_history.specs.Scenes.{Scene}
use Rattle.run_history.specs.Stages.{site_of}
use Rattle.seize.specs.declared.kind.SeizeKind.TheVariants.{Plain, Vote}
use Rattle.seize.specs.declared.step.SeizeStep.{SeizeStep}
use Rattle.seize.specs.declared.step.SeizeStep.TheVariants.{Check, Ended}
use Rattle.wire.specs.declared.message.Body.TheVariants as body
use Rattle.run_outcomes.specs.phases.Kept.{In}
use Rattle.run_outcomes.specs.tasks.Laws.{IsUnregistered}
use Rattle.run_outcomes.specs.tasks.Shown.{AsksQuorum, IsVoteTo}

-- ---- an attempt

-- an entry of a device without votes has not ended so that its node is not registered
abbrev pub EntryKept : Seizing → Type 0
EntryKept e = e.kind ≡ Plain → IsUnregistered e.result → ⊥

abbrev pub AreKept : AttemptState → Type 0
AreKept a = AllByRecursion EntryKept a.devices

-- a Seized of node n told that its key is not registered on device d
abbrev pub TellsSo : List Letter → ℕ → ℕ → ℕ → List ℕ → Type 0
TellsSo L n e d keys = IsAmong n (body.Seized e d (NotRegistered keys)) L

-- What its coordinator, node n, told itself of keys that are not registered is of devices with votes.
pub record AttemptKept (L : List Letter) (n : ℕ) (a : AttemptState) : Type 0 where
  pub entries : AreKept a
  pub own : (d : ℕ) (keys : List ℕ) → TellsSo L n a.plan.epoch d keys → IsVoteTo a d

-- ---- tasks

-- it does not look whether the key of its node is there, and has not ended for want of it
abbrev pub LooksNot : SeizeStep → Type 0
LooksNot Check = ⊥
LooksNot (Ended r) = IsUnregistered (Some r) → ⊥
LooksNot _ = Unit {0}

-- Node n seizes device d for its votes in session q: another's attempt has asked for it, or its own, which seizes the device for its votes.
pub record VotedFor (L : List Letter) (n q : ℕ) (o : Option AttemptState) (d : ℕ) : Type 0 where
  pub asked : q % 64 ≢ n → AsksQuorum L q d
  pub own : In (λ a. IsVoteTo a d) o

abbrev pub WorkKept : List Letter → ℕ → ℕ → Option AttemptState → ℕ → Work → Type 0
WorkKept L n q o d (Seizes s) = (s.kind ≡ Plain → LooksNot s.step) × (s.kind ≡ Vote → VotedFor L n q o d)
WorkKept L n q o d (Joins j) = Unit {0}

abbrev pub TasksKept : List Letter → ℕ → ℕ → Option AttemptState → List Task → Type 0
TasksKept L n q o tasks = AllByRecursion (λ (t : Task). WorkKept L n q o t.device t.work) tasks

-- ---- a node

pub record UpKept (L : List Letter) (n : ℕ) (x : UpNode) : Type 0 where
  pub tasks : TasksKept L n (session_of x) x.attempt x.tasks
  pub attempt : In (AttemptKept L n) x.attempt

abbrev pub NodeKept : List Letter → ℕ → Node → Type 0
NodeKept L n Down = Unit {0}
NodeKept L n (Up x) = UpKept L n x

-- with its disk: what it told of keys that are not registered is of numbers that it has promised
pub record SiteKept (L : List Letter) (n : ℕ) (x : Site) : Type 0 where
  pub low : (e d : ℕ) (keys : List ℕ) → TellsSo L n e d keys → e ≤ x.disk.promised
  pub up : NodeKept L n x.node

-- where another node told an attempt that its key is not registered, the attempt has asked for the device as a quorum device
abbrev pub AreAsked : List Letter → Type 0
AreAsked L = (n e d : ℕ) (keys : List ℕ) → e % 64 ≢ n → TellsSo L n e d keys → AsksQuorum L e d

-- the own tasks among the steps that its attempt gave last are of devices with votes, where they are for votes
abbrev pub HandKept : Hand → Type 0
HandKept None = Unit {0}
HandKept (Some u) = (d : ℕ) → IsStep (steps.SeizeHere d Vote) u.steps → IsVoteTo u.after d

-- of a whole scene
pub record SceneKept (s : Scene) : Type 0 where
  pub asked : AreAsked s.nodes.sent
  pub sites : (n : ℕ) → SiteKept s.nodes.sent n (site_of s.nodes n)

-- ---- a membership starts

-- of its attempt no entry of a device without votes has ended so that its node is not registered
abbrev pub StartKept : Doing → Type 0
StartKept (Does (Makes (Starts a k s))) = AreKept a
StartKept (Saves (Starts a k s)) = AreKept a
StartKept _ = Unit {0}

abbrev pub StartsKept : List Doing → Type 0
StartsKept ds = AllByRecursion StartKept ds
