-- What a start takes over, and what nodes tell of their maps: beside the forming of two nodes, of which nothing runs.
use Rattle.std.specs.Prelude.{ℕ, List, [], ◌∷◌, ◌++◌}
use Rattle.cl_base.specs.declared.history.FailoverMode.TheVariants as mode
use Rattle.cl_base.specs.declared.method.Method.TheVariants.{Start, Stop, MonitorStart}
use Rattle.cl_base.specs.declared.method.Outcome.TheVariants.{Success, Timeout}
use Rattle.schedule_text.specs.declared.event.Event.TheVariants as event
use Rattle.status_report.specs.declared.node_entry.DownCause.TheVariants as cause
use Rattle.history.specs.Moment.{Moment}
use Rattle.history.specs.Trace.{up, down, saved, installed, member, sent, delivered, start, adopt, ended_excluded}
use Rattle.history_samples.specs.SampleNames as name
use Rattle.history_samples.specs.SampleOneNode.{line_of}
use Rattle.history_samples.specs.SampleContents.{collected, installing, promised, ready, long, short, letter, none, only}
use Rattle.group_history.specs.Setting.{Groups}
use Rattle.group_history.specs.Doings.{called, done, stop_panic}
use Rattle.group_samples.specs.SampleConfigurations.{a, single_node, groups_on, table_on}
use Rattle.group_samples.specs.SampleAllowed.{running}

-- ---- `adopt` lines

abbrev pub starting : List Moment
starting = start 65 3 0 0 ∷ saved 1 ∷ delivered 5 2 1 ∷ line_of (event.Next 2 1) ∷ ready

-- no Ready told that
abbrev pub adopted_untold : List Moment
adopted_untold = adopt 65 2 a running ∷ starting

-- a Ready that tells that `a` runs on node 2
abbrev pub ready_with_a : List ℕ
ready_with_a = 9 ∷ 2 ∷ long 65 ++ short 0 ++ only (letter 97 ++ 2 ∷ []) ++ none

abbrev pub reported : List Moment
reported = sent 5 2 1 name.Ready ready_with_a ∷ installed 2 65 ∷ saved 2 ∷ delivered 4 1 2 ∷ line_of (event.Next 1 2) ∷ installing

abbrev pub starting_with_a : List Moment
starting_with_a = start 65 3 0 0 ∷ saved 1 ∷ delivered 5 2 1 ∷ line_of (event.Next 2 1) ∷ reported

abbrev pub adopted_as_told : List Moment
adopted_as_told = adopt 65 2 a running ∷ starting_with_a

abbrev pub adopted_elsewhere : List Moment
adopted_elsewhere = adopt 65 1 a running ∷ starting_with_a

abbrev pub adopted_nothing : List Moment
adopted_nothing = member 1 65 ∷ starting_with_a

-- ---- the own map of node 1

abbrev pub started_a : List Moment
started_a = done 65 1 Start a Success ∷ called 65 1 Start a ∷ up 1 ∷ []

abbrev pub stopped_a : List Moment
stopped_a = done 65 1 Stop a Success ∷ called 65 1 Stop a ∷ started_a

abbrev pub failed_to_stop_a : List Moment
failed_to_stop_a = done 65 1 Stop a Timeout ∷ called 65 1 Stop a ∷ started_a

abbrev pub monitored_a : List Moment
monitored_a = done 65 1 MonitorStart a Success ∷ called 65 1 MonitorStart a ∷ started_a

abbrev pub rebooted : List Moment
rebooted = up 1 ∷ down 1 cause.Crash ∷ started_a

-- ---- flags in a Promise

-- the Promise of node 2 says that something runs there
abbrev pub promised_flags : List Moment
promised_flags = sent 3 2 1 name.Promise (3 ∷ 2 ∷ long 65 ++ long 0 ++ short 3 ++ short 0 ++ 1 ∷ none ++ none) ∷ collected

-- and an attempt ends since it had flags
abbrev pub excluded_without_flags : List Moment
excluded_without_flags = ended_excluded 65 2 ∷ delivered 3 2 1 ∷ line_of (event.Next 2 1) ∷ promised

-- ---- panics

abbrev pub hard : Groups
hard = groups_on single_node (1 ∷ []) (table_on (1 ∷ []) mode.Hard)

abbrev pub panicking : List Moment
panicking = stop_panic 1 a ∷ failed_to_stop_a

abbrev pub staying_up : List Moment
staying_up = line_of (event.Tick 1) ∷ failed_to_stop_a

abbrev pub panicking_after_a_success : List Moment
panicking_after_a_success = stop_panic 1 a ∷ stopped_a
