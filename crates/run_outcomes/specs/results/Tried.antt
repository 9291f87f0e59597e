-- Which keys were read on a device that is not seized, and who may not seize it, against the lines.
use Rattle.std.specs.Prelude.{ℕ, ◌≡◌, ◌≢◌, ◌<◌, ◌⊎◌, ◌==◌, not, Bool, true, false, List, if◌then◌else◌, is_some}
use Rattle.std.specs.List.{AllByRecursion, list_any}
use Rattle.cl_base.specs.Sets.{has}
use Rattle.cl_base.specs.declared.header.Header.{Header}
use Rattle.device_queue.specs.Queue.{seizure_of}
use Rattle.device_queue.specs.declared.task.Task.{Task}
use Rattle.device_queue.specs.declared.task.Work.{Work}
use Rattle.device_queue.specs.declared.task.Work.TheVariants.{Joining as Joins, Seizing as Seizes}
use Rattle.history.specs.Attempts.{is_unregistered, lacks_key, promised_invalid, reads_without, some_member}
use Rattle.history.specs.Moment.{Moment}
use Rattle.history.specs.Order.{before_last}
use Rattle.history.specs.Seizing.{is_attempt}
use Rattle.history.specs.Setting.{coordinator}
use Rattle.history.specs.Validated.{is_valid, validity}
use Rattle.node_model.specs.Seats.{installed_of, record_of, session_of}
use Rattle.node_model.specs.declared.node.UpNode.{UpNode}
use Rattle.run_history.specs.WorldLines.{IsDevice}

-- n did not hold device d valid where it promised e, or began e
abbrev pub is_unheld : Header → ℕ → ℕ → List Moment → ℕ → Bool
is_unheld h e d before n = if n == coordinator e then not (is_valid (validity h n d (before_last (is_attempt e) before))) else promised_invalid h e d n before

-- .. and where it began e, there is its line
pub record Without (h : Header) (e d : ℕ) (before : List Moment) (n : ℕ) : Type 0 where
  pub unheld : is_unheld h e d before n ≡ true
  pub begun : n ≡ coordinator e → list_any (is_attempt e) before ≡ true

-- so it is where the device, of the header, is not valid
abbrev pub Unheld : Header → ℕ → ℕ → List Moment → ℕ → Bool → Type 0
Unheld h e d before n valid = IsDevice h d → valid ≡ false → Without h e d before n

-- a key that is not among these is lacking in what some member read since the attempt began
abbrev pub AreRead : Header → ℕ → ℕ → List Moment → List ℕ → Type 0
AreRead h e d before keys = (m : ℕ) → lacks_key h m keys ≡ true → some_member e before (reads_without h d m) ≡ true

-- these keys were read, and n may not seize the device
pub record Tried (h : Header) (e d : ℕ) (before : List Moment) (n : ℕ) (keys : List ℕ) : Type 0 where
  pub read : AreRead h e d before keys
  pub without : IsDevice h d → is_unregistered h e d before n ≡ true

-- ---- what a node has

-- of attempts: this one began, and its coordinator collects no Promises for it any more
abbrev pub Collected : Type 1
Collected = ℕ → Type 0

-- it did not hold the device valid where it entered session q, or it seizes it, and the Promises of q are collected
abbrev pub HeldOr : Header → Collected → List Moment → ℕ → ℕ → ℕ → List Task → Type 0
HeldOr h past moments n q d tasks = Without h q d moments n ⊎ ((is_some (seizure_of tasks d) ≡ true) × past q)

-- a seizing looks at what its record held as it was begun
abbrev pub WorkHeld : Header → List Moment → ℕ → ℕ → ℕ → Work → Type 0
WorkHeld h moments n q d (Seizes s) = Unheld h q d moments n s.valid
WorkHeld h moments n q d (Joins j) = Unit {0}

abbrev pub TasksHeld : Header → List Moment → ℕ → ℕ → List Task → Type 0
TasksHeld h moments n q tasks = AllByRecursion (λ (t : Task). WorkHeld h moments n q t.device t.work) tasks

-- In a session that it has not installed its record holds a device valid that it held so when it entered the session, unless it seizes the device.
abbrev pub SeatHeld : Header → Collected → List Moment → ℕ → UpNode → Type 0
SeatHeld h past moments n x = 0 < session_of x → installed_of x ≢ session_of x → (d : ℕ) → IsDevice h d → has (record_of x).valid d ≡ false → HeldOr h past moments n (session_of x) d x.tasks
