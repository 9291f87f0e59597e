-- An attempt ends at its eighth tick: as many ticks came, by the lines, as it has waited for at most.
use Rattle.std.specs.Prelude.{ℕ, ◌≡◌, ◌⊎◌, ◌≤◌, Bool, true, false}
use Rattle.std.specs.List.{list_any}
use Rattle.cmm_attempt.specs.Attempts.{AttemptState}
use Rattle.history.specs.Attempts.{EndsInTime, ends_silent_or_falls, phase_tick}
use Rattle.history.specs.Moment.{Told}
use Rattle.history.specs.Order.{EachEvent}
use Rattle.history.specs.Queue.{queue_is_open}
use Rattle.history_setting.specs.Settings.{setting_of}
use Rattle.node_model.specs.declared.cluster.Cluster.{Cluster}
use Rattle.node_model.specs.declared.node.UpNode.{UpNode}
use Rattle.node_model.specs.declared.output.Output.{Output}
use Rattle.node_model.specs.declared.output.Output.TheVariants.{Sends, Tells}
use Rattle.refinement.specs.Courses.{Course}
use Rattle.refinement.specs.Courses.Course.{Acts, Falls, Keeps, Stops}
use Rattle.refinement.specs.Doings.{acted, changed, said}
use Rattle.run_outcomes.specs.phases.Laws.{HasAttempt}
use Rattle.run_outcomes.specs.rounds_told.Laws.{OfWholeRuns}
use Rattle.run_outcomes.specs.tasks.Laws.{OfEachLeft}

-- ---- the laws

-- Where the device queue of a coordinator is told, its attempt has waited for as many ticks at least as came, by the lines, since its phase began or it asked something new.
abbrev pub TicksAreMost : Type 0
TicksAreMost = OfEachLeft (λ h s. (n : ℕ) (a : AttemptState) → HasAttempt s n a → queue_is_open (setting_of h) n s.moments ≡ false
    → phase_tick (setting_of h) a.plan.epoch s.moments ≤ a.ticks)

-- In a tick that is the eighth of a phase, or a later one, an attempt ends where an answer is missing.
abbrev pub AttemptsEndInTime : Type 0
AttemptsEndInTime = OfWholeRuns (λ S moments. EachEvent (EndsInTime S) moments)

-- ---- along a course

-- this tells that attempt e has ended for want of an answer, or that its coordinator has gone down
abbrev pub shows_end : ℕ → Output → Bool
shows_end e (Tells told) = ends_silent_or_falls e (Told told)
shows_end e (Sends to b) = false

-- it is told along the course, or the node goes down
abbrev pub EndsAlong : Cluster → ℕ → ℕ → UpNode → Course → Type 0
EndsAlong c me e x Stops = ⊥
EndsAlong c me e x (Acts a rest) = (list_any (shows_end e) (said c me x a) ≡ true) ⊎ EndsAlong c me e (acted c me x a) rest
EndsAlong c me e x (Keeps change rest) = EndsAlong c me e (changed c me x change) rest
EndsAlong c me e x (Falls why) = Unit {0}
