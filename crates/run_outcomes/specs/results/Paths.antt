-- Who is asked to seize a device has a path to it: in the tasks of each node, in its attempt, and in messages.
use Rattle.std.specs.Prelude.{ℕ, ◌≡◌, ◌<◌, ◌≤◌, ◌^◌, true, List, length, Option, None, Some}
use Rattle.std.specs.List.{AllByRecursion}
use Rattle.cl_base.specs.Limits.{most_devices}
use Rattle.cl_base.specs.Sets.{has}
use Rattle.cl_base.specs.declared.header.Header.{Header}
use Rattle.cmm_attempt.specs.Attempts.{AttemptState}
use Rattle.cmm_attempt.specs.Calls.{IsReached}
use Rattle.cmm_attempt.specs.declared.seizing.Seizing.{Seizing}
use Rattle.cmm_attempt.specs.declared.step.Step.{Step}
use Rattle.cmm_attempt.specs.declared.step.Step.TheVariants as step
use Rattle.device_queue.specs.declared.task.Task.{Task}
use Rattle.device_queue.specs.declared.task.Work.{Work}
use Rattle.device_queue.specs.declared.task.Work.TheVariants.{Joining as Joins, Seizing as Seizes}
use Rattle.interconnect.specs.Links.{Packet}
use Rattle.node_model.specs.Clusters.{has_path}
use Rattle.node_model.specs.declared.cluster.Cluster.{Cluster}
use Rattle.node_model.specs.declared.node.Node.{Node}
use Rattle.node_model.specs.declared.node.Node.TheVariants.{Down, Up}
use Rattle.node_model.specs.declared.node.UpNode.{UpNode}
use Rattle.refinement.specs.Ties.{Delivered}
use Rattle.run_history.specs.Guards.{Hand, IsStep}
use Rattle.run_history.specs.Happenings.{Happening, MayAllHappen, all_happened}
use Rattle.run_history.specs.Scenes.{Scene, first_scene}
use Rattle.wire.specs.Reads.{whole_of}
use Rattle.wire.specs.declared.message.Body.{Body}
use Rattle.wire.specs.declared.message.Body.TheVariants as body
use Rattle.wire.specs.declared.message.Message.{Message}
use Rattle.world_model.specs.First.{first_cluster}

-- ---- what a node has

abbrev pub WorkPath : Cluster → ℕ → ℕ → Work → Type 0
WorkPath c n d (Seizes s) = has_path c.attached n d ≡ true
WorkPath c n d (Joins j) = Unit {0}

-- what it seizes it has a path to
abbrev pub TasksPath : Cluster → ℕ → List Task → Type 0
TasksPath c n tasks = AllByRecursion (λ (t : Task). WorkPath c n t.device t.work) tasks

-- each node that is attached to its device has a path there, and so has the one that is asked
pub record EntryPath (c : Cluster) (s : Seizing) : Type 0 where
  pub attached : (n : ℕ) → has s.attached.nodes n ≡ true → has_path c.attached n s.attached.device ≡ true
  pub seizer : (n : ℕ) → s.seizer ≡ Some n → has_path c.attached n s.attached.device ≡ true

pub record AttemptPath (c : Cluster) (n : ℕ) (a : AttemptState) : Type 0 where
  pub reached : IsReached a
  pub attached : a.plan.attached ≡ c.attached
  pub coordinator : a.plan.coordinator ≡ n
  pub entries : AllByRecursion (EntryPath c) a.devices

abbrev pub AttemptIn : Cluster → ℕ → Option AttemptState → Type 0
AttemptIn c n None = Unit {0}
AttemptIn c n (Some a) = AttemptPath c n a

pub record UpPath (c : Cluster) (n : ℕ) (x : UpNode) : Type 0 where
  pub tasks : TasksPath c n x.tasks
  pub attempt : AttemptIn c n x.attempt

abbrev pub NodePath : Cluster → ℕ → Node → Type 0
NodePath c n Down = Unit {0}
NodePath c n (Up x) = UpPath c n x

-- ---- messages

-- of a message to this node
abbrev pub BodyPath : Cluster → ℕ → Body → Type 0
BodyPath c to (body.SeizeQuorum e members d) = has_path c.attached to d ≡ true
BodyPath c to (body.SeizeData e members d) = has_path c.attached to d ≡ true
BodyPath c to _ = Unit {0}

abbrev pub PacketPath : Cluster → Packet → Type 0
PacketPath c x = (m : Message) → whole_of x.bytes ≡ Some m → BodyPath c x.to m.body

abbrev pub HandPath : Cluster → ℕ → Delivered → Type 0
HandPath c n None = Unit {0}
HandPath c n (Some d) = BodyPath c n d.1.body

-- a step of the attempt of node n
abbrev pub StepPath : Cluster → ℕ → Step → Type 0
StepPath c n (step.Send to m) = BodyPath c to m.body
StepPath c n (step.SeizeHere d kind) = has_path c.attached n d ≡ true
StepPath c n _ = Unit {0}

abbrev pub TurnPath : Cluster → ℕ → Hand → Type 0
TurnPath c n None = Unit {0}
TurnPath c n (Some u) = (x : Step) → IsStep x u.steps → StepPath c n x

-- of a whole scene
pub record IsPathed (c : Cluster) (s : Scene) : Type 0 where
  pub nodes : (n : ℕ) → NodePath c n (s.nodes.node n)
  pub packets : AllByRecursion (PacketPath c) s.links.packets

-- ---- at each point of a run

abbrev pub PathsOfEachRun : Type 0
PathsOfEachRun = (h : Header) (cells : ℕ) (hs : List Happening) → length h.devices ≤ most_devices → h.cluster < 2 ^ 32 → MayAllHappen (first_cluster h) (first_scene h cells) hs
    → (n : ℕ) → NodePath (first_cluster h) n ((all_happened (first_cluster h) (first_scene h cells) hs).nodes.node n)
