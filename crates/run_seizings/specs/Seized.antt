-- How far a node is with its seizings, by its tasks, against what its device lines tell.
use Rattle.std.specs.Prelude.{ℕ, ◌≡◌, ◌<◌, ◌⊎◌, Bool, true, false, List, [], ◌∷◌, Option, None, Some, is_some}
use Rattle.std.specs.List.{AllByRecursion, list_any}
use Rattle.cl_base.specs.Sets.{has}
use Rattle.cl_base.specs.declared.header.Header.{Header}
use Rattle.cl_base.specs.declared.seizing.SeizeEnd.TheVariants.{Held}
use Rattle.cmm_attempt.specs.Attempts.{AttemptState}
use Rattle.cmm_attempt.specs.Seizings.{is_held_by}
use Rattle.cmm_attempt.specs.declared.phase.Phase.TheVariants.{Installing}
use Rattle.cmm_attempt.specs.declared.seizing.Seizing.{Seizing}
use Rattle.attempt_laws.specs.Staying.{IsBefore}
use Rattle.device_queue.specs.Tasks.{is_queued}
use Rattle.device_queue.specs.declared.task.Task.{Task}
use Rattle.device_queue.specs.declared.task.Work.{Work}
use Rattle.device_queue.specs.declared.task.Work.TheVariants.{Seizing as Seizes, Joining as Joins}
use Rattle.seize.specs.Seizing.{SeizeState}
use Rattle.seize.specs.declared.step.SeizeStep.{SeizeStep}
use Rattle.seize.specs.declared.step.SeizeStep.TheVariants as step
use Rattle.wire.specs.Spelling.{IsDevice}
use Rattle.wire.specs.declared.lists.Reading.{Reading}
use Rattle.wire.specs.declared.message.Body.{Body}
use Rattle.wire.specs.declared.message.Body.TheVariants as body
use Rattle.history.specs.Contents.{knows_held}
use Rattle.history.specs.Member.{attempt_of, members_of, session_of}
use Rattle.history.specs.Moment.{Moment}
use Rattle.history.specs.Seizing.{Progress, Begun, Saw, are_members_keys, is_attempt, is_install, keys_in, keys_seized, progress_of, seizing_of}
use Rattle.history.specs.Setting.{coordinator}

-- e was attempted, and its line has these members
abbrev pub IsOf : List Moment → ℕ → ℕ → Type 0
IsOf moments e members = (list_any (is_attempt e) moments ≡ true) × (members_of e moments ≡ members)

-- node n has installed e, by its line
abbrev pub has_installed : ℕ → ℕ → List Moment → Bool
has_installed n e moments = list_any (is_install n e) moments

-- e is a number that was attempted, and that its coordinator has installed
abbrev pub IsInstalled : List Moment → ℕ → Type 0
IsInstalled moments e =
    (0 < e) × (list_any (is_attempt e) moments ≡ true) × (has_installed (coordinator e) e moments ≡ true)

-- n has seized device d for e, and is a member of it
abbrev pub IsSeized : Header → List Moment → ℕ → ℕ → ℕ → Type 0
IsSeized h moments n e d =
    (is_some (keys_seized h n e d moments) ≡ true) × (is_some (seizing_of h e d moments) ≡ true)

-- Either its coordinator has installed e, and then no seizing for it counts any more, or n has seized the
-- device.
abbrev pub SeizedOr : Header → List Moment → ℕ → ℕ → ℕ → Type 0
SeizedOr h moments n e d = (has_installed (coordinator e) e moments ≡ true) ⊎ IsSeized h moments n e d

-- ---- tasks

-- it has tried to reserve the device
abbrev pub HasReserved : Progress → Type 0
HasReserved Begun = ⊥
HasReserved _ = Unit {0}

-- it saw these keys last, which are those of members; or it has seized the device before
abbrev pub HasSeen : Header → ℕ → ℕ → List ℕ → Progress → Type 0
HasSeen h members n keys p =
    (is_some (keys_in p) ≡ true) ⊎ ((p ≡ Saw keys) × (are_members_keys h members n keys ≡ true))

-- how far a seizing has come, against its lines
abbrev pub StepSo : Header → ℕ → ℕ → Progress → SeizeStep → Type 0
StepSo h members n p (step.ReadKeys reading) = HasReserved p
StepSo h members n p (step.Preempt victim reading) = HasReserved p
StepSo h members n p (step.Confirm keys) = HasSeen h members n keys p
StepSo h members n p (step.Ended (Held keys)) = is_some (keys_in p) ≡ true
StepSo h members n p _ = Unit {0}

-- it reads and tells nothing yet
abbrev pub IsFirst : SeizeStep → Type 0
IsFirst step.Check = Unit {0}
IsFirst step.Register = Unit {0}
IsFirst _ = ⊥

-- a seizing of node n in this session, in which it is a member
pub record Base (h : Header) (moments : List Moment) (n q : ℕ) (s : SeizeState) : Type 0 where
  pub me : s.me ≡ n
  pub cluster : s.cluster ≡ h.cluster
  pub epoch : s.epoch ≡ q
  pub some : 0 < q
  pub of : IsOf moments q s.members
  pub member : has s.members n ≡ true

abbrev pub WorkSo : Header → List Moment → ℕ → ℕ → ℕ → Work → Type 0
WorkSo h moments n q d (Seizes s) =
    Base h moments n q s × StepSo h s.members n (progress_of h n q d moments) s.step
WorkSo h moments n q d (Joins j) = Unit {0}

abbrev pub FreshWork : Header → List Moment → ℕ → ℕ → Work → Type 0
FreshWork h moments n q (Seizes s) = Base h moments n q s × IsFirst s.step
FreshWork h moments n q (Joins j) = Unit {0}

abbrev pub Fresh : Header → List Moment → ℕ → ℕ → Task → Type 0
Fresh h moments n q t = FreshWork h moments n q t.work

abbrev pub Either : Bool → Type 0 → Type 0 → Type 0
Either true P Q = P
Either false P Q = Q

-- Each up to the first that is queued is as far as its lines are; those behind it have not begun.
abbrev pub TasksSo : Header → List Moment → ℕ → ℕ → List Task → Type 0
TasksSo h moments n q [] = Unit {0}
TasksSo h moments n q (t ∷ ts) =
    WorkSo h moments n q t.device t.work
    × Either (is_queued t) (AllByRecursion (Fresh h moments n q) ts) (TasksSo h moments n q ts)

-- ---- the attempt

-- the coordinator knows that the device is held, and some member seized it
abbrev pub IsKnown : Header → List Moment → ℕ → ℕ → Type 0
IsKnown h moments e d = (knows_held h e d moments ≡ true) × (is_some (seizing_of h e d moments) ≡ true)

abbrev pub HeldSo : (ℕ → Type 0) → Seizing → Type 0
HeldSo P e = is_held_by e.result ≡ true → P e.attached.device

pub record AttemptSo (h : Header) (moments : List Moment) (n q : ℕ) (a : AttemptState) : Type 0 where
  pub of : IsOf moments a.plan.epoch a.plan.members
  pub some : 0 < a.plan.epoch
  pub last : attempt_of n moments ≡ Some a.plan.epoch
  pub own : coordinator a.plan.epoch ≡ n
  pub epoch : a.plan.epoch ≡ q
  pub before : IsBefore a.phase → has_installed n a.plan.epoch moments ≡ false
  pub installs : a.phase ≡ Installing → has_installed n a.plan.epoch moments ≡ true
  pub held : AllByRecursion (HeldSo (IsKnown h moments a.plan.epoch)) a.devices

abbrev pub AttemptIn : Header → List Moment → ℕ → ℕ → Option AttemptState → Type 0
AttemptIn h moments n q None = Unit {0}
AttemptIn h moments n q (Some a) = AttemptSo h moments n q a

-- ---- messages

-- each device that an Install brings was seized for it by some member
abbrev pub ReadSo : Header → List Moment → ℕ → List Reading → Type 0
ReadSo h moments e readings = AllByRecursion (λ (r : Reading). IsDevice r.device × (is_some (seizing_of h e r.device moments) ≡ true)) readings

-- when it was sent
abbrev pub SentSo : List Moment → ℕ → Body → Type 0
SentSo before from (body.Collect e members) = attempt_of from before ≡ Some e
SentSo before from (body.Seized e d (Held keys)) = session_of from before ≡ Some e
SentSo before from _ = Unit {0}

-- .. and what stands since
abbrev pub StandsSo : Header → List Moment → ℕ → Body → Type 0
StandsSo h moments from (body.SeizeQuorum e members d) = IsOf moments e members
StandsSo h moments from (body.SeizeData e members d) = IsOf moments e members
StandsSo h moments from (body.Seized e d (Held keys)) =
    (list_any (is_attempt e) moments ≡ true) × SeizedOr h moments from e d
StandsSo h moments from (body.Install i) = IsInstalled moments i.epoch × ReadSo h moments i.epoch i.readings
StandsSo h moments from _ = Unit {0}
