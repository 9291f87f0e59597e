-- What is proved of each run of the world, as things that happen: whose answers an attempt waits for, as the lines tell it.
use Rattle.std.specs.Prelude.{ℕ, ◌≡◌, ◌^◌, nat_lt, Bool, true, false, List, Some, find, length}
use Rattle.std.specs.List.{list_any}
use Rattle.attempt_laws.specs.Staying.{IsBefore}
use Rattle.cl_base.specs.declared.header.Header.{Header}
use Rattle.cmm_attempt.specs.Attempts.{AttemptState, is_missing}
use Rattle.cmm_attempt.specs.declared.phase.Phase.TheVariants.{Collecting}
use Rattle.history.specs.Attempts.{first_missing, is_silent, is_unanswered, may_be_silent, questions}
use Rattle.history.specs.Moment.{Moment}
use Rattle.history.specs.Order.{Always}
use Rattle.history.specs.Queue.{has_work, queue_is_open}
use Rattle.history.specs.Setting.{Setting}
use Rattle.history.specs.Trace.{ended_silent}
use Rattle.history_setting.specs.Settings.{setting_of}
use Rattle.run_outcomes.specs.phases.Laws.{HasAttempt, is_other}
use Rattle.run_outcomes.specs.tasks.Laws.{OfEachLeft, OfEachPoint}

-- an answer of m, another member, is missing
abbrev pub lacks_answer : Header → ℕ → List Moment → ℕ → Bool
lacks_answer h e moments m = list_any (is_unanswered e moments m) (questions (length h.devices))

-- ---- the laws

-- Where an answer of another member is missing by the lines, the attempt waits for it.
abbrev pub LacksTold : Header → AttemptState → List Moment → Type 0
LacksTold h a moments = (m : ℕ) → is_other a moments m ≡ true → lacks_answer h a.plan.epoch moments m ≡ true → is_missing a m ≡ true

-- So it is while a packet number is left.
abbrev pub LacksAreMissing : Type 0
LacksAreMissing = OfEachPoint (λ h s. nat_lt s.links.next (2 ^ 63) ≡ true → (n : ℕ) (a : AttemptState) → HasAttempt s n a → LacksTold h a s.moments)

-- While it collects Promises it waits for no other answers.
abbrev pub CollectsTold : Header → AttemptState → List Moment → Type 0
CollectsTold h a moments = a.phase ≡ Collecting → (m : ℕ) → is_other a moments m ≡ true → lacks_answer h a.plan.epoch moments m ≡ is_missing a m

abbrev pub CollectsAreMissing : Type 0
CollectsAreMissing = OfEachPoint (λ h s. nat_lt s.links.next (2 ^ 63) ≡ true → (n : ℕ) (a : AttemptState) → HasAttempt s n a → CollectsTold h a s.moments)

-- Before it installs it waits exactly for those other members of which an answer is missing.
abbrev pub MissingTold : Header → AttemptState → List Moment → Type 0
MissingTold h a moments = IsBefore a.phase → (m : ℕ) → is_other a moments m ≡ true → lacks_answer h a.plan.epoch moments m ≡ is_missing a m

abbrev pub MissingAreTold : Type 0
MissingAreTold = OfEachPoint (λ h s. nat_lt s.links.next (2 ^ 63) ≡ true → (n : ℕ) (a : AttemptState) → HasAttempt s n a → MissingTold h a s.moments)

-- So it does in each phase, where nodes of the header alone boot: each Install fits a packet then.
abbrev pub AwaitedTold : Header → AttemptState → List Moment → Type 0
AwaitedTold h a moments = (m : ℕ) → is_other a moments m ≡ true → lacks_answer h a.plan.epoch moments m ≡ is_missing a m

abbrev pub AwaitedAreTold : Type 0
AwaitedAreTold = OfEachLeft (λ h s. (n : ℕ) (a : AttemptState) → HasAttempt s n a → AwaitedTold h a s.moments)

-- ---- together with the coordinator's own part

-- Where the device queue of a coordinator is told, its own part is missing exactly where it has work there by the lines.
abbrev pub OwnPartIsTold : Type 0
OwnPartIsTold = OfEachLeft (λ h s. (n : ℕ) (a : AttemptState) → HasAttempt s n a → queue_is_open (setting_of h) n s.moments ≡ false
    → has_work (setting_of h) n s.moments ≡ is_missing a n)

-- So the least member whose answer is missing by the lines is the one for which the attempt waits first.
abbrev pub FirstIsTold : Type 0
FirstIsTold = OfEachLeft (λ h s. (n : ℕ) (a : AttemptState) → HasAttempt s n a → queue_is_open (setting_of h) n s.moments ≡ false
    → first_missing (setting_of h) a.plan.epoch s.moments ≡ find (is_missing a) a.plan.nodes)

-- Where the queue is not told, it may be the coordinator, or it is so among the others.
abbrev pub OthersAreTold : Type 0
OthersAreTold = OfEachLeft (λ h s. (n : ℕ) (a : AttemptState) → HasAttempt s n a → (m : ℕ) → find (is_missing a) a.plan.nodes ≡ Some m
    → may_be_silent (setting_of h) a.plan.epoch m s.moments ≡ true)

-- ---- an attempt ends for want of an answer where the lines show that it does

abbrev pub EndsSilentSo : Setting → List Moment → Moment → Type 0
EndsSilentSo S before (ended_silent e m) = is_silent S e m before ≡ true
EndsSilentSo S before _ = Unit {0}

abbrev pub SilentsAreCaused : Type 0
SilentsAreCaused = OfEachLeft (λ h s. Always (EndsSilentSo (setting_of h)) s.moments)
