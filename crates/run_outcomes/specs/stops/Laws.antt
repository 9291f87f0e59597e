-- What is proved of each run of the world, as things that happen: where a node stops in a tick.
use Rattle.std.specs.Prelude.{◌≡◌, Bool, true, false, List, Option, Some}
use Rattle.schedule_text.specs.declared.event.Event.{Event}
use Rattle.schedule_text.specs.declared.event.Event.TheVariants as event
use Rattle.history.specs.Moment.{Moment}
use Rattle.history.specs.Order.{under_way}
use Rattle.history.specs.Saves.{may_save}
use Rattle.history.specs.Setting.{Setting}
use Rattle.history.specs.Trace.{stopped}
use Rattle.run_packets.specs.admitted.Laws.{OfEachTold}

abbrev pub is_tick : Option Event → Bool
is_tick (Some (event.Tick n)) = true
is_tick _ = false

-- where a node stops in a tick, the rules let it save there
abbrev pub TickStops : Setting → List Moment → Moment → Type 0
TickStops S before (stopped n) = is_tick (under_way before) ≡ true → may_save S n before ≡ true
TickStops S before _ = Unit {0}

-- .. in each run in which the nodes that boot are those of the header, so that every packet counts in what a node sees
abbrev pub TickStopsOfEachRun : Type 0
TickStopsOfEachRun = OfEachTold TickStops
