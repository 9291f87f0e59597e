-- What each thing that happens keeps of a node and its lines.
use Rattle.std.specs.Prelude.{ℕ, ◌≡◌, ◌≢◌, ◌<◌, ◌==◌, false, true, List, [], ◌∷◌, filter, Option, None, Some}
use Rattle.std.specs.List.{AllByRecursion}
use Rattle.device_queue.specs.Queue.{after_seize}
use Rattle.device_queue.specs.Tasks.{is_joining}
use Rattle.device_queue.specs.declared.task.Task.{Task}
use Rattle.seize.specs.Seizing.{SeizeState}
use Rattle.history.specs.Member as member
use Rattle.history.specs.Moment.{Moment}
use Rattle.history.specs.Queue as told
use Rattle.history.specs.Setting.{coordinator}
use Rattle.history.specs.Trace.{saved}
use Rattle.node_model.specs.Seats.{installed_of, session_of}
use Rattle.node_model.specs.declared.cluster.Cluster.{Cluster}
use Rattle.node_model.specs.declared.node.Node.{Node}
use Rattle.node_model.specs.declared.node.Node.TheVariants.{Down, Up}
use Rattle.node_model.specs.declared.node.UpNode.{UpNode}
use Rattle.refinement.specs.Doings.{Doing, Site, effect, gives}
use Rattle.refinement.specs.Doings.Change.{Installs}
use Rattle.refinement.specs.Doings.Doing.{Saves}
use Rattle.refinement.specs.Guards.{Says}
use Rattle.refinement.specs.Ties.{Delivered}
use Rattle.run_history.specs.Scenes.{Scene, passing}
use Rattle.run_seizings.specs.Seized.{has_installed}
use Rattle.wire.specs.declared.message.Body.TheVariants as body
use Rattle.run_devices.specs.queues.Laws.{Same}
use Rattle.run_devices.specs.queues.Views.{ShownAs, View, told_tasks}

-- a task is to be begun yet, by a request that has come
abbrev pub Pending : Type 0
Pending = Option (ℕ × SeizeState)

abbrev pub begun_with : Pending → List Task → List Task
begun_with None tasks = tasks
begun_with (Some p) tasks = after_seize tasks p.0 p.1

abbrev pub NoJoins : List Task → Type 0
NoJoins tasks = AllByRecursion (λ (t : Task). is_joining t.work ≡ false) tasks

abbrev pub joins_in : List Task → List Task
joins_in tasks = filter (λ (t : Task). is_joining t.work) tasks

-- Where they are told: in a session that is installed the joinings are these; before that all tasks are, with the one that is to be begun.
abbrev pub Tells : Option (List told.Task) → Pending → UpNode → Type 0
Tells None p x = Unit {0}
Tells (Some tasks) p x =
    (installed_of x ≡ session_of x → Same (joins_in x.tasks) tasks) × (installed_of x ≢ session_of x → Same (begun_with p x.tasks) tasks)

pub record UpSo (S : View) (moments : List Moment) (n : ℕ) (p : Pending) (x : UpNode) : Type 0 where
  pub none : session_of x ≡ 0 → member.session_of n moments ≡ None
  pub fresh : 0 < session_of x → installed_of x ≢ session_of x → has_installed n (session_of x) moments ≡ false
  pub done : 0 < session_of x → installed_of x ≡ session_of x → has_installed n (session_of x) moments ≡ true
  pub plain : installed_of x ≢ session_of x → NoJoins x.tasks
  pub tells : Tells (told_tasks S n moments) p x

abbrev pub NodeSo : View → List Moment → ℕ → Pending → Node → Type 0
NodeSo S moments n p Down = Unit {0}
NodeSo S moments n p (Up x) = UpSo S moments n p x

-- ---- an install

-- Where not only the lines tell, a node that installs another's session has shown what it holds valid.
abbrev pub DoingShows : View → ℕ → Delivered → List Moment → Doing → Type 0
DoingShows S n told moments (Saves (Installs r i)) =
    S.alone ≡ false → Says (λ b. b ≡ body.Install i) told → (coordinator i.epoch == n) ≡ false → ShownAs S.setting n i.epoch r.saved.valid (saved n ∷ moments)
DoingShows S n told moments _ = Unit {0}

-- each of these small steps does so
abbrev pub AllShow : View → Cluster → ℕ → Delivered → Site → List Doing → Scene → Type 0
AllShow S c n told x [] s = Unit {0}
AllShow S c n told x (d ∷ small) s = DoingShows S n told s.moments d × AllShow S c n told (effect c n x d) small (passing n (gives c n x d) s)
