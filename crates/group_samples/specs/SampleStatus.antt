-- What a status may not tell, and what may not be left undone.
use Rattle.std.specs.Prelude.{ℕ, false, List, [], ◌∷◌, Option, Some, None, if◌then◌else◌}
use Rattle.std.specs.Str.{bytes_eq}
use Rattle.ccr_tables.specs.State.{ConfigState}
use Rattle.ccr_tables.specs.declared.command.AdminCommand.{AdminCommand}
use Rattle.ccr_tables.specs.declared.command.AdminCommand.TheVariants.{Act, Change, Status}
use Rattle.ccr_tables.specs.declared.update.GroupChange.TheVariants.{Offline}
use Rattle.ccr_tables.specs.declared.update.Update.TheVariants.{ChangeGroup}
use Rattle.cl_base.specs.declared.command.Ask.TheVariants.{Remaster}
use Rattle.cl_base.specs.declared.command.Policy.TheVariants.{Weighted}
use Rattle.cl_base.specs.declared.command.Query.TheVariants.{GroupStatus}
use Rattle.cl_base.specs.declared.history.FailoverMode.TheVariants as mode
use Rattle.cl_base.specs.declared.method.Method.TheVariants.{Start}
use Rattle.cl_base.specs.declared.method.Outcome.TheVariants.{Success}
use Rattle.cl_base.specs.declared.reason.Reason.TheVariants as reason
use Rattle.cl_base.specs.declared.refusal.Refusal.TheVariants as refusal
use Rattle.cl_base.specs.declared.state.GroupState.TheVariants as state
use Rattle.schedule_text.specs.declared.event.Event.TheVariants as event
use Rattle.status_report.specs.declared.call_entry.ProbeResult.TheVariants as result
use Rattle.status_report.specs.declared.command_entry.Answer.TheVariants as answer
use Rattle.status_report.specs.declared.schedule_entry.SkipCause.TheVariants as skip
use Rattle.status_report.specs.declared.status_entry.StatusEntry.TheVariants as shown
use Rattle.history.specs.Moment.{Moment}
use Rattle.history.specs.Trace.{ticked, sent, propose, asked, answered, gives, skipped, served}
use Rattle.history_samples.specs.SampleNames as name
use Rattle.history_samples.specs.SampleOneNode.{line_of}
use Rattle.group_history.specs.Setting.{Groups}
use Rattle.group_history.specs.Doings.{called, done, probed, status}
use Rattle.group_samples.specs.SampleConfigurations.{a, g, asks_status, is_status, single_node, groups_on, table_on, configured_on}
use Rattle.group_samples.specs.SampleFault as fault
use Rattle.group_samples.specs.SampleFailover.{order, ordered}
use Rattle.group_samples.specs.SampleMaps.{monitored_a, started_a}

-- ---- a status after the fault

abbrev pub told_online : List Moment
told_online = answered 1 1 answer.Ok ∷ status (shown.Group g 1 state.Online) ∷ fault.asking

abbrev pub told_without_a_reason : List Moment
told_without_a_reason = answered 1 1 answer.Ok ∷ status (shown.Group g 1 state.OnlineFaulted) ∷ fault.asking

abbrev pub told_another_reason : List Moment
told_another_reason = answered 1 1 answer.Ok ∷ status (shown.Why g 1 (reason.Blocked a)) ∷ status (shown.Group g 1 state.OnlineFaulted) ∷ fault.asking

abbrev pub told_nothing : List Moment
told_nothing = answered 1 1 answer.Ok ∷ fault.asking

-- ---- a president that starts nothing: two ticks have come, and the group's resource could be started

abbrev pub resting : List Moment
resting = ticked 1 ∷ line_of (event.Tick 1) ∷ ticked 1 ∷ line_of (event.Tick 1) ∷ fault.formed

abbrev pub blocked : List Moment
blocked = status (shown.Why g 1 (reason.Blocked a)) ∷ status (shown.Group g 1 state.PendingOnlineBlocked) ∷ asked 1 1 ∷ gives 1 asks_status ∷ resting

abbrev pub told_blocked : List Moment
told_blocked = answered 1 1 answer.Ok ∷ blocked

-- ---- an Order that lacks its Done

abbrev pub tick : List Moment → List Moment
tick before = ticked 1 ∷ line_of (event.Tick 1) ∷ before

abbrev pub order_left : List Moment
order_left = tick (tick (tick (tick ordered)))

abbrev pub order_again : List Moment
order_again = sent 8 1 2 (name.Order 3) (order 3) ∷ order_left

-- the event of its first sending is a tick too, so that the third after it asks for nothing
abbrev pub order_waits : List Moment
order_waits = tick (tick (tick ordered))

-- ---- commands

abbrev pub asks_remaster : List ℕ
asks_remaster = 114 ∷ []

abbrev pub asks_offline : List ℕ
asks_offline = 111 ∷ []

abbrev pub commands : List ℕ → Option AdminCommand
commands words =
    if bytes_eq words asks_remaster then Some (Act (Remaster g))
    else if bytes_eq words asks_offline then Some (Change (ChangeGroup g Offline))
    else if is_status words then Some (Status GroupStatus)
    else None

abbrev pub commanded : Groups
commanded = record (groups_on single_node (1 ∷ []) (table_on (1 ∷ []) mode.None)) { command = commands }

abbrev pub asked_to_remaster : List Moment
asked_to_remaster = asked 1 1 ∷ gives 1 asks_remaster ∷ fault.formed

abbrev pub remastered : List Moment
remastered = answered 1 1 answer.Ok ∷ asked_to_remaster

abbrev pub refused_to_remaster : List Moment
refused_to_remaster = answered 1 1 (answer.Refused refusal.Unmanaged) ∷ asked_to_remaster

abbrev pub full_with_room : List Moment
full_with_room = answered 1 1 answer.QueueFull ∷ asked_to_remaster

-- an update is answered that was not even proposed
abbrev pub asked_offline : List Moment
asked_offline = asked 1 1 ∷ gives 1 asks_offline ∷ fault.formed

abbrev pub unacknowledged : List Moment
unacknowledged = answered 1 1 answer.Ok ∷ asked_offline

-- an update is proposed that was asked for, and one before it
abbrev pub proposed_in_turn : List Moment
proposed_in_turn = propose 65 1 asks_offline ∷ asked_offline

abbrev pub proposed_out_of_turn : List Moment
proposed_out_of_turn = propose 65 1 asks_offline ∷ asked 1 2 ∷ gives 1 asks_offline ∷ asked_to_remaster

-- ---- probes

abbrev pub probe : List Moment → List Moment
probe before = line_of (event.Probe 1 a false) ∷ before

abbrev pub restarted : List Moment → List Moment
restarted before = probed 1 a result.Restart ∷ probe before

abbrev pub skipped_with_a_monitor : List Moment
skipped_with_a_monitor = skipped skip.NoMonitor ∷ probe monitored_a

abbrev pub skipped_without : List Moment
skipped_without = skipped skip.NoMonitor ∷ probe started_a

abbrev pub probed_without : List Moment
probed_without = probed 1 a result.Logged ∷ probe started_a

abbrev pub moved_at_once : List Moment
moved_at_once = probed 1 a result.Move ∷ probe monitored_a

-- two restarts are allowed
abbrev pub restarted_twice : List Moment
restarted_twice = restarted (restarted monitored_a)

abbrev pub moved_then : List Moment
moved_then = probed 1 a result.Move ∷ probe restarted_twice

abbrev pub restarted_three_times : List Moment
restarted_three_times = restarted restarted_twice

-- ---- an address `x` of the group

abbrev pub x : List ℕ
x = 120 ∷ []

abbrev pub with_address : ConfigState → ConfigState
with_address c = record c { addresses = (x, record { group = g; policy = Weighted; weights = [] }) ∷ [] }

abbrev pub serving : Groups
serving = record (groups_on single_node (1 ∷ []) (table_on (1 ∷ []) mode.None)) {
  configured = λ updates. with_address (configured_on single_node (1 ∷ []) (table_on (1 ∷ []) mode.None));
}

abbrev pub online : List Moment
online = done 65 1 Start a Success ∷ called 65 1 Start a ∷ tick fault.formed

abbrev pub client : List Moment → List Moment
client before = line_of (event.Client 1 x 10 80) ∷ before

abbrev pub served_by_the_target : List Moment
served_by_the_target = served x 10 80 (Some 1) ∷ client online

abbrev pub served_by_nobody : List Moment
served_by_nobody = served x 10 80 None ∷ client online

abbrev pub served_offline : List Moment
served_offline = served x 10 80 (Some 1) ∷ client fault.formed

abbrev pub unknown_address : List Moment
unknown_address = skipped skip.NoAddress ∷ client online
