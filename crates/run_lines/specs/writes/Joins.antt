-- How far a node is with joining devices, by its tasks, against what its device lines tell.
use Rattle.std.specs.Prelude.{ℕ, ◌≡◌, ◌<◌, ◌≤◌, Bool, true, false, List, [], ◌∷◌, Option, None, Some, find}
use Rattle.std.specs.List.{list_any}
use Rattle.cl_base.specs.Sets.{has}
use Rattle.device_queue.specs.Queue.{join_of, joins}
use Rattle.device_queue.specs.Tasks.{is_join_of}
use Rattle.device_queue.specs.declared.task.Task.{Task}
use Rattle.device_queue.specs.declared.task.Work.{Work}
use Rattle.device_queue.specs.declared.task.Work.TheVariants.{Joining, Seizing}
use Rattle.history.specs.Lines.{spoils}
use Rattle.history.specs.Moment.{Moment}
use Rattle.history.specs.Order.{since}
use Rattle.history.specs.Seizing.{is_install}
use Rattle.membership_machine.specs.State.{Memberships}
use Rattle.node_model.specs.Clusters.{has_path}
use Rattle.node_model.specs.Seats.{installed_of, promised_of, session_of, state_of}
use Rattle.node_model.specs.declared.cluster.Cluster.{Cluster}
use Rattle.node_model.specs.declared.node.Node.{Node}
use Rattle.node_model.specs.declared.node.Node.TheVariants.{Down, Up}
use Rattle.node_model.specs.declared.node.UpNode.{UpNode}
use Rattle.refinement.specs.Doings.{Site}
use Rattle.seize.specs.declared.kind.JoinResult.TheVariants.{Joined}
use Rattle.seize.specs.declared.step.JoinStep.{JoinStep}
use Rattle.seize.specs.declared.step.JoinStep.TheVariants as step

-- a line of node n since it installed e says that it did not join d
abbrev pub is_spoiled : ℕ → ℕ → ℕ → List Moment → Bool
is_spoiled n d e moments = list_any (spoils n d e) (since (is_install n e) moments)

-- ---- one device

-- a joining has ended joined, or has not and is spoiled; one that is under way is neither
abbrev pub StepSo : Bool → Bool → JoinStep → Type 0
StepSo has_joined spoiled (step.Ended Joined) = (has_joined ≡ true) × (spoiled ≡ false)
StepSo has_joined spoiled (step.Ended _) = (has_joined ≡ false) × (spoiled ≡ true)
StepSo has_joined spoiled _ = (has_joined ≡ false) × (spoiled ≡ false)

abbrev pub WorkSo : ℕ → Bool → Bool → Work → Type 0
WorkSo e has_joined spoiled (Joining j) = (j.epoch ≡ e) × StepSo has_joined spoiled j.step
WorkSo e has_joined spoiled (Seizing s) = Unit {0}

-- a device without a joining is not spoiled, and is joined where it is held
abbrev pub TaskSo : ℕ → Bool → Bool → Bool → Option Task → Type 0
TaskSo e has_joined spoiled holds None = (spoiled ≡ false) × (has_joined ≡ false → holds ≡ false)
TaskSo e has_joined spoiled holds (Some t) = WorkSo e has_joined spoiled t.work

-- ---- a node

-- at most one task is of this kind
abbrev pub Lone : (Task → Bool) → List Task → Type 0
Lone p [] = Unit {0}
Lone p (t ∷ ts) = (p t ≡ true → find p ts ≡ None) × Lone p ts

abbrev pub AllLone : List Task → Type 0
AllLone tasks = (d : ℕ) → Lone (is_join_of d) tasks

-- in a session that it has installed, of each device to which it has a path
abbrev pub DeviceSo : Cluster → Memberships → List Moment → ℕ → UpNode → ℕ → Type 0
DeviceSo c M moments n x d =
    TaskSo (session_of x) (has (state_of x.seat).joined d) (is_spoiled n d (session_of x) moments) ((M.epoch (session_of x)).holds d) (join_of x.tasks d)

pub record Installed (c : Cluster) (M : Memberships) (moments : List Moment) (n : ℕ) (x : UpNode) : Type 0 where
  pub counted : (M.epoch (session_of x)).counted ≡ true
  pub devices : (d : ℕ) → has_path c.attached n d ≡ true → DeviceSo c M moments n x d

pub record UpJoins (c : Cluster) (M : Memberships) (moments : List Moment) (n : ℕ) (x : UpNode) : Type 0 where
  pub lone : AllLone x.tasks
  pub joins : 0 < session_of x → installed_of x ≡ session_of x → Installed c M moments n x

abbrev pub NodeJoins : Cluster → Memberships → List Moment → ℕ → Node → Type 0
NodeJoins c M moments n Down = Unit {0}
NodeJoins c M moments n (Up x) = UpJoins c M moments n x

-- ---- a node that is ready has nothing left to join

abbrev pub UpDone : ℕ → UpNode → Type 0
UpDone p x = (p ≤ promised_of x) × (session_of x ≡ p → (installed_of x ≡ p) × (joins x.tasks ≡ false))

abbrev pub NodeDone : ℕ → Node → Type 0
NodeDone p Down = Unit {0}
NodeDone p (Up x) = UpDone p x

-- it has promised p, and while it is in that session it has installed it and joins nothing more
pub record SiteDone (x : Site) (p : ℕ) : Type 0 where
  pub some : 0 < p
  pub kept : p ≤ x.disk.promised
  pub done : NodeDone p x.node
