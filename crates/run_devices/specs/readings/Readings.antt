-- How far a node is with its seizings, exactly: what its tasks, its attempt and messages have, against what its device lines tell.
use Rattle.std.specs.Prelude.{ℕ, ◌≡◌, ◌<◌, ◌⊎◌, true, false, List, [], ◌∷◌, Option, None, Some}
use Rattle.std.specs.List.{AllByRecursion}
use Rattle.attempt_laws.specs.Asking.{AreApart, entry_numbers, numbers_of}
use Rattle.attempt_laws.specs.Staying.{IsBefore}
use Rattle.cl_base.specs.declared.header.Header.{Header}
use Rattle.cl_base.specs.declared.seizing.SeizeEnd.TheVariants.{Held}
use Rattle.cmm_attempt.specs.Attempts.{AttemptState}
use Rattle.cmm_attempt.specs.declared.phase.Phase.TheVariants.{Installing}
use Rattle.device_queue.specs.Queue.{seizure_of}
use Rattle.device_queue.specs.Tasks.{is_seizing}
use Rattle.device_queue.specs.declared.task.Task.{Task}
use Rattle.device_queue.specs.declared.task.Work.{Work}
use Rattle.device_queue.specs.declared.task.Work.TheVariants.{Seizing as Seizes, Joining as Joins}
use Rattle.seize.specs.declared.step.SeizeStep.{SeizeStep}
use Rattle.seize.specs.declared.step.SeizeStep.TheVariants as step
use Rattle.wire.specs.declared.message.Body.{Body}
use Rattle.wire.specs.declared.message.Body.TheVariants as body
use Rattle.history.specs.Member.{attempt_of}
use Rattle.history.specs.Moment.{Moment}
use Rattle.history.specs.Seizing.{Progress, Begun, keys_in, keys_seized, progress_of}
use Rattle.history.specs.Setting.{coordinator}
use Rattle.run_seizings.specs.Seized.{IsInstalled, IsOf, has_installed}
use Rattle.run_devices.specs.readings.Laws.{HeldAsRead, WasRead, held_keys}

-- ---- tasks

-- how far a seizing is, exactly: it has shown nothing before it tries to reserve, and has seized the device where it ended held
abbrev pub StepRead : Progress → SeizeStep → Type 0
StepRead p (step.ReadKeys reading) = keys_in p ≡ None
StepRead p (step.Preempt victim reading) = keys_in p ≡ None
StepRead p (step.Confirm keys) = keys_in p ≡ None
StepRead p (step.Ended r) = keys_in p ≡ held_keys (Some r)
StepRead p _ = p ≡ Begun

abbrev pub WorkRead : Progress → Work → Type 0
WorkRead p (Seizes s) = StepRead p s.step
WorkRead p (Joins j) = ⊥

-- of a device without a seizing nothing was shown
abbrev pub TaskRead : Progress → Option Task → Type 0
TaskRead p None = p ≡ Begun
TaskRead p (Some t) = WorkRead p t.work

-- they are seizings, and of devices apart
abbrev pub AreSeizings : List Task → Type 0
AreSeizings [] = Unit {0}
AreSeizings (t ∷ ts) = (is_seizing t.work ≡ true) × (seizure_of ts t.device ≡ None) × AreSeizings ts

-- in session q
abbrev pub TasksRead : Header → List Moment → ℕ → ℕ → List Task → Type 0
TasksRead h moments n q ts = AreSeizings ts × ((d : ℕ) → TaskRead (progress_of h n q d moments) (seizure_of ts d))

-- ---- the attempt

-- each number is below those behind it
abbrev pub AreInOrder : List ℕ → Type 0
AreInOrder [] = Unit {0}
AreInOrder (d ∷ ds) = AllByRecursion (λ e. d < e) ds × AreInOrder ds

pub record AttemptSo (h : Header) (moments : List Moment) (n q : ℕ) (a : AttemptState) : Type 0 where
  pub of : IsOf moments a.plan.epoch a.plan.members
  pub some : 0 < a.plan.epoch
  pub last : attempt_of n moments ≡ Some a.plan.epoch
  pub own : coordinator a.plan.epoch ≡ n
  pub epoch : a.plan.epoch ≡ q
  pub before : IsBefore a.phase → has_installed n a.plan.epoch moments ≡ false
  pub installs : a.phase ≡ Installing → has_installed n a.plan.epoch moments ≡ true
  pub read : AllByRecursion (HeldAsRead h moments a.plan.epoch) a.devices
  pub apart : AreApart (entry_numbers a.devices)
  pub attached : AreInOrder (numbers_of a.plan.attached)

abbrev pub AttemptIn : Header → List Moment → ℕ → ℕ → Option AttemptState → Type 0
AttemptIn h moments n q None = Unit {0}
AttemptIn h moments n q (Some a) = AttemptSo h moments n q a

-- ---- messages

-- Either its coordinator has installed e, or n read these keys.
abbrev pub ReadOr : Header → List Moment → ℕ → ℕ → ℕ → List ℕ → Type 0
ReadOr h moments n e d keys = (has_installed (coordinator e) e moments ≡ true) ⊎ (keys_seized h n e d moments ≡ Some keys)

-- when it was sent
abbrev pub SentSo : List Moment → ℕ → Body → Type 0
SentSo before from (body.Collect e members) = attempt_of from before ≡ Some e
SentSo before from _ = Unit {0}

-- .. and what stands since
abbrev pub StandsSo : Header → List Moment → ℕ → Body → Type 0
StandsSo h moments from (body.SeizeQuorum e members d) = IsOf moments e members
StandsSo h moments from (body.SeizeData e members d) = IsOf moments e members
StandsSo h moments from (body.Seized e d (Held keys)) = ReadOr h moments from e d keys
StandsSo h moments from (body.Install i) = IsInstalled moments i.epoch × AllByRecursion (WasRead h moments i.epoch) i.readings
StandsSo h moments from _ = Unit {0}
