-- When nodes and devices are those of the abstract machine of the whole cluster, in what the machine of memberships does not have of them:
-- which devices are valid to a node and which it has joined, its tasks there, and what its attempt has asked for.
use Rattle.std.specs.Prelude.{ℕ, ◌≡◌, ◌<◌, Bool, true, false, List, [], ◌∷◌, Option, None, Some}
use Rattle.std.specs.List.{AllByRecursion}
use Rattle.attempt_laws.specs.Asking.{DeviceHas}
use Rattle.cl_base.specs.Sets.{has}
use Rattle.cluster_machine.specs.Cluster.{Cluster as Whole}
use Rattle.cmm_attempt.specs.Attempts.{AttemptState}
use Rattle.cmm_member.specs.Records.{NodeRecord}
use Rattle.device_machine.specs.Phase.{Phase}
use Rattle.device_machine.specs.Sharing.{Sharing}
use Rattle.device_queue.specs.declared.task.Task.{Task}
use Rattle.device_queue.specs.declared.task.Work.{Work}
use Rattle.device_queue.specs.declared.task.Work.TheVariants as work
use Rattle.device_queue.specs.Laws.{has_task}
use Rattle.device_queue.specs.Queue.{seizure_of}
use Rattle.device_queue.specs.Tasks.{is_queued}
use Rattle.device_ties.specs.Devices.{DeviceTied}
use Rattle.device_ties.specs.Tasks.{JoiningTied, SeizingTied, ToldSo}
use Rattle.node_model.specs.declared.cluster.Cluster.{Cluster}
use Rattle.node_model.specs.declared.node.Node.{Node}
use Rattle.node_model.specs.declared.node.Node.TheVariants.{Down, Up}
use Rattle.node_model.specs.declared.node.UpNode.{UpNode}
use Rattle.node_model.specs.Seats.{record_of, state_of}
use Rattle.pgr_device.specs.Device as pgr
use Rattle.seize.specs.Joining.{JoinState}
use Rattle.seize.specs.Seizing.{SeizeState}
use Rattle.seize.specs.declared.step.JoinStep.{JoinStep}
use Rattle.seize.specs.declared.step.JoinStep.TheVariants as join
use Rattle.seize.specs.declared.step.SeizeStep.{SeizeStep}
use Rattle.seize.specs.declared.step.SeizeStep.TheVariants as seize

-- Devices, by their numbers.

abbrev pub Devices : Type 0
Devices = ℕ → pgr.Device

abbrev pub DevicesTied : Cluster → Devices → Whole → Type 0
DevicesTied c devices W = (d : ℕ) → DeviceTied c.id (devices d) (W.device d).device

-- A node at one device.

pub record MarksTied (s : Sharing) (n : ℕ) (validated has_joined : Bool) : Type 0 where
  pub valid : (s.node n).valid ≡ validated
  pub joined : (s.node n).joined ≡ has_joined

-- A seizing that is under way is the machine's, before the node installs; how one ended is so, and is of the node's session.
abbrev pub SeizingAt : ℕ → ℕ → Sharing → SeizeState → SeizeStep → Type 0
SeizingAt cluster n s t (seize.Ended r) = ToldSo s t.epoch n r × ((s.node n).session ≡ t.epoch)
SeizingAt cluster n s t _ = SeizingTied cluster n s t × ((s.node n).installed < (s.node n).session)

-- so is a joining that is under way
abbrev pub JoiningAt : ℕ → ℕ → Sharing → JoinState → JoinStep → Type 0
JoiningAt cluster n s j (join.Ended r) = Unit {0}
JoiningAt cluster n s j _ = JoiningTied cluster n s j

abbrev pub WorkAt : ℕ → ℕ → Sharing → Work → Type 0
WorkAt cluster n s (work.Seizing t) = SeizingAt cluster n s t t.step
WorkAt cluster n s (work.Joining j) = JoiningAt cluster n s j j.step

abbrev pub TaskAt : Cluster → Whole → ℕ → Task → Type 0
TaskAt c W n t = WorkAt c.id n (W.device t.device) t.work

-- of each device at most one task is queued
abbrev pub QueuedOnce : List Task → Type 0
QueuedOnce [] = Unit {0}
QueuedOnce (t ∷ tasks) = (is_queued t ≡ true → has_task t.device tasks ≡ false) × QueuedOnce tasks

-- nothing was begun there, as long as the attempt of the session is not installed
abbrev pub IsIdle : Sharing → ℕ → Type 0
IsIdle s n = (s.node n).installed < (s.node n).session → (s.node n).phase ≡ Phase.Idle

-- An attempt, at all devices.
abbrev pub AttemptAt : Whole → Option AttemptState → Type 0
AttemptAt W None = Unit {0}
AttemptAt W (Some a) = (d : ℕ) → DeviceHas (W.device d) a d

-- A node at all devices.

pub record UpAt (c : Cluster) (W : Whole) (n : ℕ) (x : UpNode) : Type 0 where
  pub marks : (d : ℕ) → MarksTied (W.device d) n (has (record_of x).valid d) (has (state_of x.seat).joined d)
  pub tasks : AllByRecursion (TaskAt c W n) x.tasks
  pub once : QueuedOnce x.tasks
  pub idle : (d : ℕ) → seizure_of x.tasks d ≡ None → IsIdle (W.device d) n
  pub attempt : AttemptAt W x.attempt

abbrev pub NodeAt : Cluster → Whole → ℕ → NodeRecord → Node → Type 0
NodeAt c W n disk Down = (d : ℕ) → MarksTied (W.device d) n (has disk.valid d) false
NodeAt c W n disk (Up x) = UpAt c W n x
