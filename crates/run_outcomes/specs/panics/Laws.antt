-- What is proved of each run of the world, as things that happen: which nodes panic since they were excluded.
use Rattle.std.specs.Prelude.{◌≡◌, true, List}
use Rattle.cl_base.specs.declared.panic.Panic.TheVariants as panic
use Rattle.history.specs.Downs.{is_told_excluded}
use Rattle.history.specs.Moment.{Moment}
use Rattle.history.specs.Order.{Always}
use Rattle.history.specs.Trace.{down}
use Rattle.run_history.specs.ContactRuns.{OfEachRun}
use Rattle.status_report.specs.declared.node_entry.DownCause.TheVariants as cause

-- a node that panics since it was excluded was told so: by its own attempt, or by an Excluded
abbrev pub PanicsExcluded : List Moment → Moment → Type 0
PanicsExcluded before (down n (cause.Panic (panic.Excluded f))) = is_told_excluded n f before ≡ true
PanicsExcluded before _ = Unit {0}

abbrev pub ExclusionsAreToldInEachRun : Type 0
ExclusionsAreToldInEachRun = OfEachRun (Always PanicsExcluded)
