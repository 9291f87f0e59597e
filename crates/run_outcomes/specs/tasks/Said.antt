-- What each node has said of its seizings, against the tasks that it has.
use Rattle.std.specs.Prelude.{ℕ, ◌≡◌, ◌≢◌, ◌<◌, ◌≤◌, ◌⊎◌, true, List, [], ◌∷◌, None}
use Rattle.cl_base.specs.Seizings.{SeizeResult}
use Rattle.device_queue.specs.Queue.{seizure_of}
use Rattle.device_queue.specs.Tasks.{is_seizing}
use Rattle.device_queue.specs.declared.task.Task.{Task}
use Rattle.history.specs.Setting.{coordinator}
use Rattle.node_model.specs.Seats.{installed_of, session_of}
use Rattle.node_model.specs.declared.node.Node.{Node}
use Rattle.node_model.specs.declared.node.Node.TheVariants.{Down, Up}
use Rattle.node_model.specs.declared.node.UpNode.{UpNode}
use Rattle.refinement.specs.Runs.{IsAmong, Letter, Nodes}
use Rattle.run_history.specs.Guards.{HasEnded}
use Rattle.wire.specs.declared.message.Body.TheVariants as body

-- of an attempt, a device, and how its seizing there ended
abbrev pub Tale : Type 1
Tale = ℕ → ℕ → SeizeResult → Type 0

-- what n told so, in these letters
abbrev pub tale_of : ℕ → List Letter → Tale
tale_of n letters e d r = IsAmong n (body.Seized e d r) letters

-- no two seize one device
abbrev pub AreSingle : List Task → Type 0
AreSingle [] = Unit {0}
AreSingle (t ∷ ts) = (is_seizing t.work ≡ true → seizure_of ts t.device ≡ None) × AreSingle ts

-- What a node has told of its session is how its tasks there ended, until it installs.
pub record Said (L : Tale) (x : UpNode) : Type 0 where
  pub kept : (e d : ℕ) (r : SeizeResult) → L e d r → 0 < e → e ≡ session_of x → installed_of x ≢ e → HasEnded x.tasks d r
  pub single : installed_of x ≢ session_of x → AreSingle x.tasks

abbrev pub NodeSaid : Tale → Node → Type 0
NodeSaid L Down = Unit {0}
NodeSaid L (Up x) = Said L x

-- It told nothing of an attempt that it has not promised; and of one two things only where its coordinator has installed so much.
pub record SiteSaid (L : Tale) (promised : ℕ) (top : ℕ → ℕ) (node : Node) : Type 0 where
  pub low : (e d : ℕ) (r : SeizeResult) → L e d r → 0 < e → e ≤ promised
  pub agree : (e d : ℕ) (r q : SeizeResult) → L e d r → L e d q → 0 < e → (r ≡ q) ⊎ (e ≤ top (coordinator e))
  pub here : NodeSaid L node

-- what each node has installed, by its disk
abbrev pub installed_in : Nodes → ℕ → ℕ
installed_in v k = (v.disk k).kept.installed

-- of all nodes
abbrev pub AllSaid : Nodes → Type 0
AllSaid v = (n : ℕ) → SiteSaid (tale_of n v.sent) (v.disk n).kept.promised (installed_in v) (v.node n)
