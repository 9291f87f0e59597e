-- Where lines begin to count the ticks of an attempt anew.
use Rattle.std.specs.Prelude.{ℕ, ◌+◌, ◌==◌, ◌&&◌, ◌||◌, ◌≡◌, ◌⊎◌, Bool, true, false, if◌then◌else◌, List, [], ◌∷◌, Option, None, Some}
use Rattle.attempt_laws.specs.Asking.{entry_of}
use Rattle.attempt_laws.specs.Staying.{IsBefore}
use Rattle.cl_base.specs.Sets.{has}
use Rattle.cmm_attempt.specs.Attempts.{AttemptState}
use Rattle.cmm_attempt.specs.declared.phase.Phase.TheVariants.{Installing}
use Rattle.cmm_attempt.specs.declared.seizing.Seizing.{Seizing}
use Rattle.history.specs.Attempts.{asks_first, gets_task, is_tick_of}
use Rattle.history.specs.Moment.{Moment}
use Rattle.history.specs.Order.{since}
use Rattle.history.specs.Seizing.{is_attempt}
use Rattle.history.specs.Setting.{Setting, coordinator}
use Rattle.history.specs.Trace.{attempt, delivered, device, installed, sent}
use Rattle.node_model.specs.declared.input.Input.TheVariants.{Tick}
use Rattle.run_history.specs.Happenings.{Happening}
use Rattle.run_history.specs.Happenings.Happening.{Takes}
use Rattle.run_outcomes.specs.phases.Laws.{is_seizing}

-- with this line a phase of the attempt begins, or something is asked for the first time, be it of its coordinator
abbrev pub begins : Setting → ℕ → List Moment → Moment → Bool
begins S e before (attempt f members) = f == e
begins S e before (sent p a b called bytes) = asks_first (coordinator e) (since (is_attempt e) before) (sent p a b called bytes)
begins S e before (delivered p a b) = gets_task S (coordinator e) before (delivered p a b)
begins S e before (device n d done reply) = gets_task S (coordinator e) before (device n d done reply)
begins S e before (installed n f) = (n == coordinator e) && (f == e)
begins S e before _ = false

-- how many ticks of a node these lines tell
abbrev pub ticks_in : ℕ → List Moment → ℕ
ticks_in n [] = 0
ticks_in n (x ∷ xs) = (if is_tick_of n x then 1 else 0) + ticks_in n xs

-- one of these lines does, oldest first, behind the others
abbrev pub anew : Setting → ℕ → List Moment → List Moment → Bool
anew S e [] before = false
anew S e (x ∷ later) before = begins S e before x || anew S e later (x ∷ before)

-- a tick of the node is what happens
abbrev pub ticks_at : ℕ → Happening → ℕ
ticks_at n (Takes m now ends Tick) = if m == n then 1 else 0
ticks_at n _ = 0

-- ---- an attempt that asks anew, or installs

-- the member was asked to seize the device
abbrev pub has_asked_at : ℕ → Option Seizing → Bool
has_asked_at m None = false
has_asked_at m (Some e) = has e.asked m

-- a member is asked to seize a device, and was not before
pub record NewAsk (a b : AttemptState) : Type 0 where
  pub device : ℕ
  pub member : ℕ
  pub now : has_asked_at member (entry_of b.devices device) ≡ true
  pub before : has_asked_at member (entry_of a.devices device) ≡ false

-- it installs now, or seizes devices and has asked anew
pub record Fresh (a b : AttemptState) : Type 0 where
  pub early : IsBefore a.phase
  pub way : (b.phase ≡ Installing) ⊎ ((is_seizing b.phase ≡ true) × NewAsk a b)
