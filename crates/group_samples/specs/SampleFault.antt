-- A fault: the only node starts the resource of its group, and that fails. The resource is faulted, and a status tells it.
use Rattle.std.specs.Prelude.{List, [], ◌∷◌}
use Rattle.cl_base.specs.declared.method.Method.TheVariants.{Start}
use Rattle.cl_base.specs.declared.method.Outcome.TheVariants.{Failure}
use Rattle.cl_base.specs.declared.reason.Reason.TheVariants as reason
use Rattle.cl_base.specs.declared.state.GroupState.TheVariants as state
use Rattle.schedule_text.specs.declared.event.Event.TheVariants as event
use Rattle.status_report.specs.declared.command_entry.Answer.TheVariants as answer
use Rattle.status_report.specs.declared.status_entry.StatusEntry.TheVariants as shown
use Rattle.history.specs.Moment.{Moment}
use Rattle.history.specs.Trace.{up, ticked, saved, installed, member, attempt, start, asked, answered, gives, queued}
use Rattle.history_samples.specs.SampleOneNode.{line_of}
use Rattle.group_history.specs.Doings.{called, done, status, queues}
use Rattle.group_samples.specs.SampleConfigurations.{a, g, asks_status}

-- the node forms a membership of itself
abbrev pub formed : List Moment
formed =
    member 1 65
    ∷ start 65 1 0 0
    ∷ installed 1 65
    ∷ saved 1
    ∷ attempt 65 1
    ∷ saved 1
    ∷ ticked 1
    ∷ line_of (event.Tick 1)
    ∷ ticked 1
    ∷ line_of (event.Tick 1)
    ∷ ticked 1
    ∷ line_of (event.Tick 1)
    ∷ up 1
    ∷ line_of (event.Boot 1)
    ∷ []

-- the next START of the resource is to fail
abbrev pub scripted : List Moment
scripted = queued ∷ queues 1 a Start Failure ∷ formed

abbrev pub ticking : List Moment
ticking = ticked 1 ∷ line_of (event.Tick 1) ∷ scripted

abbrev pub starting : List Moment
starting = called 65 1 Start a ∷ ticking

abbrev pub failed : List Moment
failed = done 65 1 Start a Failure ∷ starting

abbrev pub asking : List Moment
asking = asked 1 1 ∷ gives 1 asks_status ∷ failed

abbrev pub faulted : List Moment
faulted = answered 1 1 answer.Ok ∷ status (shown.Why g 1 (reason.Faulted a)) ∷ status (shown.Group g 1 state.OnlineFaulted) ∷ asking
