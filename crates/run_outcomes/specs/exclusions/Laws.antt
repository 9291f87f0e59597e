-- What is proved of each run of the world, as things that happen: which nodes an attempt leaves out when it ends.
use Rattle.std.specs.Prelude.{◌≡◌, true, List}
use Rattle.history.specs.Attempts.{is_excluded}
use Rattle.history.specs.Moment.{Moment}
use Rattle.history.specs.Order.{Always}
use Rattle.history.specs.Trace.{ended_excluded}
use Rattle.run_history.specs.ContactRuns.{OfEachRun}

-- a node that is excluded was left out by an earlier attempt, whose number is above the newest that the node has installed
abbrev pub EndsExcluded : List Moment → Moment → Type 0
EndsExcluded before (ended_excluded e m) = is_excluded e m before ≡ true
EndsExcluded before _ = Unit {0}

abbrev pub ExclusionsOfEachRun : Type 0
ExclusionsOfEachRun = OfEachRun (Always EndsExcluded)
