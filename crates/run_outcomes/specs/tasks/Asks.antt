-- Whom an attempt asks to seize quorum devices: the members that were asked to seize a device, the last of them first, as its steps ask them, and as the
-- entry of the device has them.
use Rattle.std.specs.Prelude.{ℕ, ◌==◌, ◌&&◌, ◌≡◌, not, Bool, true, false, List, [], ◌∷◌, Option, None, Some, is_none, if◌then◌else◌}
use Rattle.std.specs.List.{find, list_any}
use Rattle.attempt_laws.specs.Asking.{AreApart, entry_numbers, entry_of, numbers_of}
use Rattle.cl_base.specs.Numbers.{numbers_to}
use Rattle.cl_base.specs.Seizings.{SeizeResult}
use Rattle.cl_base.specs.Sets.{has}
use Rattle.cmm_attempt.specs.Attempts.{AttemptState, Turn}
use Rattle.cmm_attempt.specs.Seizings.{may_seize}
use Rattle.cmm_attempt.specs.declared.phase.Phase.{Phase}
use Rattle.cmm_attempt.specs.declared.phase.Phase.TheVariants.{Choosing, Collecting}
use Rattle.cmm_attempt.specs.declared.plan.Plan.{Plan}
use Rattle.cmm_attempt.specs.declared.promised.Promised.{Promised}
use Rattle.cmm_attempt.specs.declared.seizing.Seizing.{Seizing}
use Rattle.cmm_attempt.specs.declared.step.Step.{Step}
use Rattle.cmm_attempt.specs.declared.step.Step.TheVariants as step
use Rattle.seize.specs.declared.kind.SeizeKind.{SeizeKind}
use Rattle.wire.specs.declared.message.Body.{Body}
use Rattle.wire.specs.declared.message.Body.TheVariants as body
use Rattle.run_outcomes.specs.tasks.Laws.{but, is_vote}

-- ---- the members that were asked to seize device d, the last first

-- a message to this member is one more request
abbrev pub asked_by_body : ℕ → ℕ → Body → List ℕ → List ℕ
asked_by_body d to (body.SeizeQuorum e members x) asked = if x == d then to ∷ asked else asked
asked_by_body d to _ asked = asked

-- with the messages among these steps
abbrev pub asked_by_steps : ℕ → List Step → List ℕ → List ℕ
asked_by_steps d [] asked = asked
asked_by_steps d (step.Send to m ∷ steps) asked = asked_by_steps d steps (asked_by_body d to m.body asked)
asked_by_steps d (_ ∷ steps) asked = asked_by_steps d steps asked

abbrev pub first_in : List ℕ → Option ℕ
first_in [] = None
first_in (m ∷ asked) = Some m

-- ---- as the entry of the device has them

-- the last of them, but for the coordinator
abbrev pub last_for : ℕ → Option Seizing → Option ℕ
last_for c None = None
last_for c (Some e) = if is_vote e.kind then but c e.seizer else None

-- whether this one was asked
abbrev pub has_for : ℕ → ℕ → Option Seizing → Bool
has_for c m None = false
has_for c m (Some e) = is_vote e.kind && not (m == c) && has e.asked m

-- where the coordinator may seize the device, it was asked itself
abbrev pub OwnFor : List Promised → ℕ → Option Seizing → Type 0
OwnFor promises c None = Unit {0}
OwnFor promises c (Some e) = is_vote e.kind ≡ true → may_seize promises e.attached c ≡ true → has e.asked c ≡ true

-- these members were asked, as the entry has them
pub record IsTold (promises : List Promised) (c : ℕ) (o : Option Seizing) (asked : List ℕ) : Type 0 where
  pub last : first_in asked ≡ last_for c o
  pub each : (m : ℕ) → list_any (λ k. k == m) asked ≡ has_for c m o
  pub own : OwnFor promises c o

-- whom a request that is awaited asks
abbrev pub wants_by : ℕ → SeizeKind → Option SeizeResult → Option ℕ → Option ℕ
wants_by c kind r o = if is_vote kind && is_none r then but c o else None

abbrev pub wants_in : ℕ → Option Seizing → Option ℕ
wants_in c None = None
wants_in c (Some e) = wants_by c e.kind e.result e.seizer

abbrev pub one_more : Option ℕ → List ℕ → List ℕ
one_more None asked = asked
one_more (Some m) asked = m ∷ asked

-- ---- an attempt

-- the coordinator is the first of the members
abbrev pub IsFirst : Plan → Type 0
IsFirst plan = (p : ℕ → Bool) → p plan.coordinator ≡ true → find p plan.nodes ≡ Some plan.coordinator

abbrev pub IsEarly : Phase → Type 0
IsEarly Collecting = Unit {0}
IsEarly Choosing = Unit {0}
IsEarly _ = ⊥

-- its devices are apart, and it has none before the votes were given
pub record IsSound (plan : Plan) (devices : List Seizing) (phase : Phase) : Type 0 where
  pub first : IsFirst plan
  pub nodes : plan.nodes ≡ numbers_to plan.members 32
  pub attached : AreApart (numbers_of plan.attached)
  pub apart : AreApart (entry_numbers devices)
  pub early : IsEarly phase → devices ≡ []

abbrev pub Sound : AttemptState → Type 0
Sound s = IsSound s.plan s.devices s.phase

abbrev pub Told : ℕ → List ℕ → AttemptState → Type 0
Told d asked s = IsTold s.promises s.plan.coordinator (entry_of s.devices d) asked

-- and after a turn, with the members that it asks
abbrev pub TurnTold : ℕ → List ℕ → Turn → Type 0
TurnTold d asked u = Sound u.after × Told d (asked_by_steps d u.steps asked) u.after
