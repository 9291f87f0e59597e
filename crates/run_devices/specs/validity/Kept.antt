-- What each thing that happens keeps of a node and its lines.
use Rattle.std.specs.Prelude.{ℕ, ◌≡◌, ◌≢◌, ◌<◌, ◌⊎◌, true, false, List, [], ◌∷◌, Some}
use Rattle.std.specs.List.{AllByRecursion, list_any}
use Rattle.cl_base.specs.Sets.{has}
use Rattle.cl_base.specs.declared.header.Header.{Header}
use Rattle.device_queue.specs.declared.task.Task.{Task}
use Rattle.device_queue.specs.declared.task.Work.{Work}
use Rattle.device_queue.specs.declared.task.Work.TheVariants.{Seizing as Seizes, Joining as Joins}
use Rattle.device_queue.specs.Queue.{begins_plainly, first_of}
use Rattle.device_queue.specs.Tasks.{is_joining}
use Rattle.seize.specs.declared.step.JoinStep.{JoinStep}
use Rattle.seize.specs.declared.step.JoinStep.TheVariants as join
use Rattle.history.specs.Member.{in_collect, last_installed, promised_to}
use Rattle.history.specs.Moment.{Moment}
use Rattle.history.specs.Order.{since}
use Rattle.history.specs.Seizing.{is_install}
use Rattle.history.specs.Validated.{moved_on, registers, validity}
use Rattle.node_model.specs.Seats.{installed_of, session_of}
use Rattle.node_model.specs.declared.node.Node.{Node}
use Rattle.node_model.specs.declared.node.Node.TheVariants.{Down, Up}
use Rattle.node_model.specs.declared.node.UpNode.{UpNode}
use Rattle.node_model.specs.declared.cluster.Cluster.{Cluster}
use Rattle.cmm_member.specs.Records.{NodeRecord}
use Rattle.history.specs.Trace.{saved}
use Rattle.refinement.specs.Doings.{Doing, Site, effect, gives}
use Rattle.refinement.specs.Doings.Act.{Takes}
use Rattle.refinement.specs.Doings.Change.{Admits, Counts, Installs, Leads, Promises}
use Rattle.refinement.specs.Doings.Doing.{Does, Saves}
use Rattle.run_history.specs.Scenes.{Scene, passing}
use Rattle.run_devices.specs.installs.Shown.{InstallSo}
use Rattle.run_history.specs.WorldLines.{IsDevice}
use Rattle.run_devices.specs.validity.Laws.{Agrees}

-- ---- a node that is up

-- in session q, with e installed last: once it has installed its session it has not moved on, and before that it has
pub record MovedSo (moments : List Moment) (n q e : ℕ) : Type 0 where
  pub stands : e ≡ q → (moved_on n moments ≡ false) × (last_installed n moments ≡ q)
  pub moved : e ≢ q → moved_on n moments ≡ true

-- it registered on the device since it installed q
abbrev pub HasEntered : List Moment → ℕ → ℕ → ℕ → Type 0
HasEntered moments n d q = list_any (registers n d) (since (is_install n q) moments) ≡ true

-- a joining that reads the word next
abbrev pub JoinSo : List Moment → ℕ → ℕ → ℕ → ℕ → JoinStep → Type 0
JoinSo moments n q e d join.ReadWord = (q ≡ e) × HasEntered moments n d q
JoinSo moments n q e d _ = Unit {0}

abbrev pub WorkSo : List Moment → ℕ → ℕ → ℕ → ℕ → Work → Type 0
WorkSo moments n q e d (Seizes s) = Unit {0}
WorkSo moments n q e d (Joins j) = JoinSo moments n q e d j.step

abbrev pub TaskSo : List Moment → ℕ → ℕ → ℕ → Task → Type 0
TaskSo moments n q e t = WorkSo moments n q e t.device t.work

pub record UpSo (moments : List Moment) (n : ℕ) (x : UpNode) : Type 0 where
  pub moved : 0 < session_of x → MovedSo moments n (session_of x) (installed_of x)
  pub tasks : AllByRecursion (TaskSo moments n (session_of x) (installed_of x)) x.tasks

abbrev pub UpIn : List Moment → ℕ → Node → Type 0
UpIn moments n Down = Unit {0}
UpIn moments n (Up x) = UpSo moments n x

-- ---- with its disk

-- Its record is as the lines tell, or this excuses it.
abbrev pub Excuse : Type 1
Excuse = ℕ → Type 0

abbrev pub NoExcuse : Excuse
NoExcuse d = ⊥

pub record SiteSo (h : Header) (moments : List Moment) (n : ℕ) (excuse : Excuse) (x : Site) : Type 0 where
  pub valid : (d : ℕ) → IsDevice h d → Agrees (validity h n d moments) (has x.disk.valid d) ⊎ excuse d
  pub up : UpIn moments n x.node

-- it has saved that the device is not valid, before the `ignore` of its first task
abbrev pub Begins : ℕ → Node → Type 0
Begins d Down = ⊥
Begins d (Up x) = begins_plainly x.tasks ≡ Some d

abbrev pub readying : Site → Excuse
readying x d = Begins d x.node × (has x.disk.valid d ≡ false)

-- ---- what it installs with

abbrev pub RecordAgrees : Header → ℕ → List Moment → NodeRecord → Type 0
RecordAgrees h n moments r = (d : ℕ) → IsDevice h d → Agrees (validity h n d moments) (has r.valid d)

-- in a session that is installed the task that takes the answer joins
abbrev pub JoinsFirst : UpNode → Type 0
JoinsFirst x = installed_of x ≡ session_of x → (t : Task) → first_of x.tasks ≡ Some t → is_joining t.work ≡ true

abbrev pub JoinsFirstIn : Node → Type 0
JoinsFirstIn Down = Unit {0}
JoinsFirstIn (Up x) = JoinsFirst x

-- It installs what tells the seizings, and its record is as the lines tell, as it is where it promises the number of the Collect that has come, or begins an attempt; and once it
-- has installed its session the answers that come are of joinings.
abbrev pub DoingAgrees : Header → ℕ → Site → List Moment → Doing → Type 0
DoingAgrees h n x moments (Saves (Promises p)) = (in_collect n moments ≡ true) × (promised_to moments ≡ Some p) × RecordAgrees h n moments x.disk
DoingAgrees h n x moments (Saves (Leads p members)) = RecordAgrees h n moments x.disk
DoingAgrees h n x moments (Saves (Counts a q r i)) = InstallSo h (saved n ∷ moments) n r i × RecordAgrees h n moments x.disk
DoingAgrees h n x moments (Saves (Installs r i)) = InstallSo h (saved n ∷ moments) n r i × RecordAgrees h n moments x.disk
DoingAgrees h n x moments (Does (Takes at command a)) = JoinsFirstIn x.node
DoingAgrees h n x moments (Saves (Admits at command a d)) = JoinsFirstIn x.node
DoingAgrees h n x moments _ = Unit {0}

-- each of these small steps does so
abbrev pub AllAgree : Header → Cluster → ℕ → Site → List Doing → Scene → Type 0
AllAgree h c n x [] s = Unit {0}
AllAgree h c n x (d ∷ small) s = DoingAgrees h n x s.moments d × AllAgree h c n (effect c n x d) small (passing n (gives c n x d) s)
