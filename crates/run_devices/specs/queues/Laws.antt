-- What is proved of each run of the world, as things that happen: the device queue of a node, as the lines tell it.
use Rattle.std.specs.Prelude.{ℕ, ◌≡◌, ◌≢◌, ◌<◌, ◌≤◌, ◌^◌, ◌==◌, ◌⊎◌, nat_lt, not, Bool, true, false, List, [], ◌∷◌, filter, length, Option, None, Some, is_some}
use Rattle.std.specs.List.{list_any}
use Rattle.cl_base.specs.Limits.{most_devices}
use Rattle.cl_base.specs.declared.header.Header.{Header}
use Rattle.device_queue.specs.Tasks.{is_queued}
use Rattle.device_queue.specs.declared.task.Task.{Task}
use Rattle.device_queue.specs.declared.task.Work.{Work}
use Rattle.device_queue.specs.declared.task.Work.TheVariants.{Seizing, Joining}
use Rattle.pgr_device.specs.declared.command.PrCommand.{PrCommand}
use Rattle.schedule_text.specs.declared.event.Event.TheVariants as event
use Rattle.schedule_text.specs.declared.line.Line.TheVariants as line
use Rattle.seize.specs.declared.step.SeizeStep.TheVariants.{Check}
use Rattle.status_report.specs.declared.schedule_entry.SkipCause.{SkipCause}
use Rattle.history.specs.Lines.{commands_in, skip_disk}
use Rattle.history.specs.Member.{is_up}
use Rattle.history.specs.Moment.{Moment, Part, Said}
use Rattle.history.specs.Order.{EachEvent}
use Rattle.history.specs.Queue as told
use Rattle.history.specs.Queue.{due_of}
use Rattle.history.specs.Setting.{Setting}
use Rattle.history.specs.Trace.{disk_failed, skipped, stopped}
use Rattle.node_model.specs.Seats.{installed_of, session_of}
use Rattle.node_model.specs.declared.node.Node.{Node}
use Rattle.node_model.specs.declared.node.Node.TheVariants.{Down, Up}
use Rattle.node_model.specs.declared.node.UpNode.{UpNode}
use Rattle.world_model.specs.Devices.{due_at}
use Rattle.world_model.specs.First.{first_cluster}
use Rattle.run_history.specs.Happenings.{Happening, IsUp, MayAllHappen, all_happened}
use Rattle.run_history.specs.Scenes.{Scene, first_scene}
use Rattle.run_history.specs.Shapes.{Due, IsShaped, ShapedFrom, nothing}
use Rattle.run_history.specs.WorldLines.{AreDisks}
use Rattle.run_devices.specs.queues.Told.{told_tasks}

-- ---- the tasks that a node has are these

-- The same seizing, as far: that the key is validated counts at its first check alone. The same joining, as far.
abbrev pub SameWork : Work → told.Work → Type 0
SameWork (Seizing s) (told.Seizes r) = (record s { valid = r.valid } ≡ r) × (s.step ≡ Check → s.valid ≡ r.valid)
SameWork (Joining j) (told.Joins k) = j ≡ k
SameWork _ _ = ⊥

-- on the same device
abbrev pub SameTask : Task → told.Task → Type 0
SameTask t u = (t.device ≡ u.device) × SameWork t.work u.work

-- one by one, in order
abbrev pub Same : List Task → List told.Task → Type 0
Same [] [] = Unit {0}
Same (t ∷ ts) (u ∷ us) = SameTask t u × Same ts us
Same _ _ = ⊥

-- the tasks that are not over
abbrev pub queued : List told.Task → List told.Task
queued tasks = filter (λ (t : told.Task). not (told.is_over t.work)) tasks

-- Those that are not over are the same. Until the node has installed its session, so are all: those that are over then it keeps, and `history` does not.
pub record HasTasks (x : UpNode) (tasks : List told.Task) : Type 0 where
  pub queue : Same (filter is_queued x.tasks) (queued tasks)
  pub all : installed_of x ≢ session_of x → Same x.tasks tasks

abbrev pub NodeHas : Node → List told.Task → Type 0
NodeHas Down tasks = Unit {0}
NodeHas (Up x) tasks = HasTasks x tasks

-- ---- at each point of a run

abbrev pub HasTold : Setting → Scene → ℕ → Type 0
HasTold S s n = (tasks : List told.Task) → told_tasks S n s.moments ≡ Some tasks → NodeHas (s.nodes.node n) tasks

abbrev pub QueuesOfEachRun : Type 0
QueuesOfEachRun = (h : Header) (cells : ℕ) (hs : List Happening) (last : Due) (S : Setting) → length h.devices ≤ most_devices → h.cluster < 2 ^ 32 → S.header ≡ h → AreDisks h
    → MayAllHappen (first_cluster h) (first_scene h cells) hs → ShapedFrom (first_cluster h) (first_scene h cells) nothing hs last
    → (n : ℕ) → HasTold S (all_happened (first_cluster h) (first_scene h cells) hs) n

-- ---- disk lines

-- n goes down in a save: it stops, or its disk fails
abbrev pub is_lost : ℕ → Moment → Bool
is_lost n (stopped m) = m == n
is_lost n (disk_failed m) = m == n
is_lost n _ = false

-- Where the tasks are told a node does the command that is due, or goes down in the save before it and does none: as `DoesNext` of `history`, but for a
-- record that fits no disk.
abbrev pub DoesDue : ℕ → List (ℕ × PrCommand) → List Moment → Type 0
DoesDue n due entries = (commands_in n entries ≡ due) ⊎ ((commands_in n entries ≡ []) × (list_any (is_lost n) entries ≡ true))

-- of a line that is skipped for this cause, or for none
abbrev pub IsDiskOf : ℕ → List told.Task → List Moment → Option SkipCause → Type 0
IsDiskOf n tasks entries (Some why) = entries ≡ skipped why ∷ []
IsDiskOf n tasks entries None = DoesDue n (due_of (queued tasks)) entries

-- no task is queued: no work
abbrev pub skip_of : List told.Task → Option SkipCause
skip_of tasks = skip_disk true (nat_lt 0 (length (queued tasks)))

-- of a node that is up, where its tasks are told
abbrev pub WhereTold : Setting → ℕ → List Moment → (List told.Task → Type 0) → Type 0
WhereTold S n before P = is_up n before ≡ true → (tasks : List told.Task) → told_tasks S n before ≡ Some tasks → P tasks

-- A `disk` line does the command that is due, and is skipped exactly where none is; a part of a round is never skipped.
abbrev pub IsDone : Setting → List Moment → Moment → List Moment → Type 0
IsDone S before (Said (line.Event (event.Disk n))) entries = WhereTold S n before (λ tasks. IsDiskOf n tasks entries (skip_of tasks))
IsDone S before (Part (event.Disk n)) entries = WhereTold S n before (λ tasks. (skip_of tasks ≡ None) × DoesDue n (due_of (queued tasks)) entries)
IsDone S before _ entries = Unit {0}

abbrev pub DiskLinesOfEachRun : Type 0
DiskLinesOfEachRun = (h : Header) (cells : ℕ) (hs : List Happening) (S : Setting) → length h.devices ≤ most_devices → h.cluster < 2 ^ 32 → S.header ≡ h → AreDisks h
    → MayAllHappen (first_cluster h) (first_scene h cells) hs → IsShaped (first_cluster h) (first_scene h cells) hs
    → EachEvent (IsDone S) (all_happened (first_cluster h) (first_scene h cells) hs).moments

-- ---- which nodes have work

-- where the tasks of a node that is up are told, they show whether it has a command due
abbrev pub TellsWork : Setting → Scene → ℕ → Type 0
TellsWork S s n = IsUp (s.nodes.node n) → (tasks : List told.Task) → told_tasks S n s.moments ≡ Some tasks → nat_lt 0 (length (queued tasks)) ≡ is_some (due_at (Some (s.nodes.node n)))

abbrev pub WorkOfEachRun : Type 0
WorkOfEachRun = (h : Header) (cells : ℕ) (hs : List Happening) (last : Due) (S : Setting) → length h.devices ≤ most_devices → h.cluster < 2 ^ 32 → S.header ≡ h → AreDisks h
    → MayAllHappen (first_cluster h) (first_scene h cells) hs → ShapedFrom (first_cluster h) (first_scene h cells) nothing hs last
    → (n : ℕ) → TellsWork S (all_happened (first_cluster h) (first_scene h cells) hs) n
