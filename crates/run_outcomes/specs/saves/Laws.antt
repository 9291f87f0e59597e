-- What is proved of each run of the world, as things that happen: where nodes stop.
use Rattle.std.specs.Prelude.{◌≡◌, Bool, true, false, List, Option, Some}
use Rattle.schedule_text.specs.declared.event.Event.{Event}
use Rattle.schedule_text.specs.declared.event.Event.TheVariants as event
use Rattle.history.specs.Moment.{Moment}
use Rattle.history.specs.Order.{Always, under_way}
use Rattle.history.specs.Saves.{may_save}
use Rattle.history.specs.Setting.{Setting}
use Rattle.history.specs.Trace.{stopped}
use Rattle.run_history.specs.ContactRuns.{OfEachRun}

-- any event but a tick, and a command of a node at a device
abbrev pub is_ruled : Option Event → Bool
is_ruled (Some (event.Tick n)) = false
is_ruled (Some (event.Disk n)) = false
is_ruled _ = true

-- where a node stops in such an event, the rules let it save or mount there
abbrev pub StopsByRule : Setting → List Moment → Moment → Type 0
StopsByRule S before (stopped n) = is_ruled (under_way before) ≡ true → may_save S n before ≡ true
StopsByRule S before _ = Unit {0}

abbrev pub LetterStopsOfEachRun : Type 0
LetterStopsOfEachRun = OfEachRun (λ moments. (S : Setting) → Always (StopsByRule S) moments)
