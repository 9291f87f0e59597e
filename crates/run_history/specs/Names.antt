-- Which devices a node names: those of its tasks, and those of its attempt.
use Rattle.std.specs.Prelude.{ℕ, ◌≡◌, true, IfSome}
use Rattle.std.specs.List.{AllByRecursion}
use Rattle.cl_base.specs.Sets.{has}
use Rattle.cmm_attempt.specs.declared.attached.AttachedDevice.{AttachedDevice}
use Rattle.cmm_attempt.specs.declared.seizing.Seizing.{Seizing}
use Rattle.cmm_attempt.specs.Attempts.{AttemptState}
use Rattle.device_queue.specs.declared.task.Task.{Task}
use Rattle.node_model.specs.declared.cluster.Cluster.{Cluster}
use Rattle.node_model.specs.declared.node.Node.{Node}
use Rattle.node_model.specs.declared.node.Node.TheVariants.{Down, Up}
use Rattle.node_model.specs.declared.node.UpNode.{UpNode}

-- D holds of the device
abbrev pub TaskOf : (ℕ → Type 0) → Task → Type 0
TaskOf D t = D t.device

abbrev pub AttachedOf : (ℕ → Type 0) → AttachedDevice → Type 0
AttachedOf D a = D a.device

abbrev pub SeizingOf : (ℕ → Type 0) → Seizing → Type 0
SeizingOf D e = D e.attached.device

-- D holds of each device that an attempt has, or seizes
abbrev pub AttemptNames : (ℕ → Type 0) → AttemptState → Type 0
AttemptNames D a = AllByRecursion (AttachedOf D) a.plan.attached × AllByRecursion (SeizingOf D) a.devices

-- .. and of each at which a node has a task
abbrev pub UpNames : (ℕ → Type 0) → UpNode → Type 0
UpNames D x = AllByRecursion (TaskOf D) x.tasks × IfSome x.attempt (AttemptNames D)

abbrev pub NodeNames : (ℕ → Type 0) → Node → Type 0
NodeNames D Down = Unit {0}
NodeNames D (Up x) = UpNames D x

-- the device is one of the cluster's
abbrev pub IsListed : Cluster → ℕ → Type 0
IsListed c d = has c.devices d ≡ true

-- so is each that nodes are attached to
abbrev pub AreListed : Cluster → Type 0
AreListed c = AllByRecursion (AttachedOf (IsListed c)) c.attached
