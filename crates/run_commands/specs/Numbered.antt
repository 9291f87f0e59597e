-- Commands are numbered: each has the next number of its node, or a greater one where a monitor asked since the last command.
use Rattle.std.specs.Prelude.{List}
use Rattle.history.specs.Commands.{IsNumbered}
use Rattle.history.specs.Moment.{Moment}
use Rattle.history.specs.Order.{Always}
use Rattle.history.specs.Trace.{asked}

abbrev pub IsNumberedSo : List Moment → Moment → Type 0
IsNumberedSo before (asked n q) = IsNumbered n q before
IsNumberedSo before _ = Unit {0}

abbrev pub CommandsAreNumbered : List Moment → Type 0
CommandsAreNumbered moments = Always IsNumberedSo moments
