-- The ticks of attempts, as lines count them.
use Rattle.std.specs.Prelude.{ℕ, ◌||◌, ◌≡◌, ◌≤◌, Bool, true, false, List, [], ◌∷◌}
use Rattle.std.specs.List.{list_any}
use Rattle.cmm_attempt.specs.Attempts.{AttemptState}
use Rattle.history.specs.Attempts.{asks_first, gets_task, phase_tick}
use Rattle.history.specs.Moment.{Moment}
use Rattle.history.specs.Names as name
use Rattle.history.specs.Names.{Name}
use Rattle.history.specs.Order.{Always, since}
use Rattle.history.specs.Seizing.{is_attempt, is_install}
use Rattle.history.specs.Setting.{Setting, coordinator}
use Rattle.history.specs.Trace.{delivered, device, installed}
use Rattle.history_setting.specs.Settings.{setting_of}
use Rattle.run_seizings.specs.Laws.{OfEachRun}
use Rattle.run_outcomes.specs.phases.Laws.{HasAttempt}
use Rattle.run_outcomes.specs.silence.Asked.{asked_in, is_other_node}
use Rattle.run_outcomes.specs.tasks.Laws.{OfEachLeft}

-- ---- the law

-- The attempt has waited for at most as many ticks as came, by the lines, since its phase began or it asked something new.
abbrev pub TicksTold : Type 0
TicksTold = OfEachLeft (λ h s. (n : ℕ) (a : AttemptState) → HasAttempt s n a → a.ticks ≤ phase_tick (setting_of h) a.plan.epoch s.moments)

-- ---- where lines begin to count anew

-- something is asked for the first time among these, oldest first, behind the others
abbrev pub asks_in : ℕ → List Moment → List Moment → Bool
asks_in e [] before = false
asks_in e (x ∷ later) before = asks_first (coordinator e) (since (is_attempt e) before) x || asks_in e later (x ∷ before)

-- a task of the coordinator's own is told
abbrev pub brings_task : Setting → ℕ → List Moment → Moment → Bool
brings_task S c before (delivered p a b) = gets_task S c before (delivered p a b)
brings_task S c before (device n d done reply) = gets_task S c before (device n d done reply)
brings_task S c before _ = false

abbrev pub tasks_in : Setting → ℕ → List Moment → List Moment → Bool
tasks_in S c [] before = false
tasks_in S c (x ∷ later) before = brings_task S c before x || tasks_in S c later (x ∷ before)

-- ---- what it rests on

-- To whom an attempt has sent a Collect or an Install is another member of it.
abbrev pub IsToAll : Name → Type 0
IsToAll name.Collect = Unit {0}
IsToAll name.Install = Unit {0}
IsToAll _ = ⊥

abbrev pub AskedAreMembers : Type 0
AskedAreMembers = OfEachLeft (λ h s. (n : ℕ) (a : AttemptState) → HasAttempt s n a → (m : ℕ) (q : Name) → IsToAll q → asked_in a.plan.epoch (record { to = m; called = q }) s.moments ≡ true
    → is_other_node a.plan m ≡ true)

-- No node installs a number twice.
abbrev pub IsFirstInstall : List Moment → Moment → Type 0
IsFirstInstall before (installed n e) = list_any (is_install n e) before ≡ false
IsFirstInstall before _ = Unit {0}

abbrev pub InstalledOnce : Type 0
InstalledOnce = OfEachRun (λ h moments. Always IsFirstInstall moments)
