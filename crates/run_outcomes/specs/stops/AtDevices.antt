-- What is proved of each run of the world, as things that happen: where a node stops in a command at a device.
use Rattle.std.specs.Prelude.{◌≡◌, Bool, true, false, List, Option, Some}
use Rattle.schedule_text.specs.declared.event.Event.{Event}
use Rattle.schedule_text.specs.declared.event.Event.TheVariants as event
use Rattle.history.specs.Downs.{HasDownCause}
use Rattle.history.specs.Moment.{Moment}
use Rattle.history.specs.Order.{Always, under_way}
use Rattle.history.specs.Saves.{may_save}
use Rattle.history.specs.Setting.{Setting}
use Rattle.history.specs.Trace.{stopped}
use Rattle.history_setting.specs.Settings.{setting_of}
use Rattle.run_outcomes.specs.tasks.Laws.{OfEachLeft}

abbrev pub is_disk : Option Event → Bool
is_disk (Some (event.Disk n)) = true
is_disk _ = false

-- where a node stops in a command at a device, the rules let it save there
abbrev pub DiskStops : Setting → List Moment → Moment → Type 0
DiskStops S before (stopped n) = is_disk (under_way before) ≡ true → may_save S n before ≡ true
DiskStops S before _ = Unit {0}

-- .. in each run in which a packet number is left
abbrev pub DiskStopsOfEachRun : Type 0
DiskStopsOfEachRun = OfEachLeft (λ h s. Always (DiskStops (setting_of h)) s.moments)

-- ---- each stop

-- a node stops where an armed stop falls, and only where the rules let it save or mount: as `history` has it
abbrev pub StopIsCaused : Setting → List Moment → Moment → Type 0
StopIsCaused S before (stopped n) = HasDownCause S before (stopped n)
StopIsCaused S before _ = Unit {0}

-- .. in each run in which the nodes that boot are those of the header, while a packet number is left
abbrev pub StopsAreCaused : Type 0
StopsAreCaused = OfEachLeft (λ h s. Always (StopIsCaused (setting_of h)) s.moments)
