-- An attempt that goes on in its phase, and has asked nobody anew.
use Rattle.std.specs.Prelude.{ℕ, ◌+◌, ◌≡◌, ◌≤◌, ◌⊎◌, ◌&&◌, Bool, true, false, Option, None, Some, is_none}
use Rattle.attempt_laws.specs.Asking.{entry_of}
use Rattle.cmm_attempt.specs.Attempts.{AttemptState}
use Rattle.cmm_attempt.specs.Seizings.{is_asked}
use Rattle.cmm_attempt.specs.declared.phase.Phase.TheVariants.{Over}
use Rattle.cmm_attempt.specs.declared.seizing.Seizing.{Seizing}
use Rattle.seize.specs.declared.kind.SeizeKind.{SeizeKind}

-- the members that were asked to seize the device, and as what
abbrev pub asked_at : Option Seizing → Option (SeizeKind × ℕ)
asked_at None = None
asked_at (Some e) = Some (e.kind, e.asked)

-- the answer of this member is awaited
abbrev pub awaited_at : ℕ → Option Seizing → Bool
awaited_at m None = false
awaited_at m (Some e) = is_none e.result && is_asked e.seizer m

-- as it was, but for answers, and at most so many ticks later
pub record Still (later : ℕ) (a b : AttemptState) : Type 0 where
  pub phase : (b.phase ≡ a.phase) ⊎ (b.phase ≡ Over)
  pub plan : b.plan ≡ a.plan
  pub asked : (d : ℕ) → asked_at (entry_of b.devices d) ≡ asked_at (entry_of a.devices d)
  pub awaited : (d m : ℕ) → awaited_at m (entry_of b.devices d) ≡ true → awaited_at m (entry_of a.devices d) ≡ true
  pub ticks : b.ticks ≤ a.ticks + later

-- or its phase has just begun, or asks something new; where it began, there was none before
abbrev pub StillOf : ℕ → Option AttemptState → AttemptState → Type 0
StillOf later None b = ⊥
StillOf later (Some a) b = Still later a b

abbrev pub Goes : ℕ → Option AttemptState → AttemptState → Type 0
Goes later o b = (b.ticks ≡ 0) ⊎ StillOf later o b
