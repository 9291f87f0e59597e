-- Lines without their entries, packets and rounds that go otherwise, and traces that are cut.
use Rattle.std.specs.Prelude.{List, [], ◌∷◌, true}
use Rattle.cl_base.specs.declared.panic.Panic.TheVariants as panic
use Rattle.pgr_device.specs.declared.command.PrCommand.TheVariants as command
use Rattle.pgr_device.specs.declared.command.PrAnswer.TheVariants as answer
use Rattle.schedule_text.specs.declared.event.Event.TheVariants as event
use Rattle.schedule_text.specs.declared.event.StopChoice.TheVariants.{New}
use Rattle.status_report.specs.declared.node_entry.DownCause.TheVariants as cause
use Rattle.cl_base.specs.declared.packet.DropCause.TheVariants as drop_cause
use Rattle.status_report.specs.declared.device_entry.DeviceAnswer.TheVariants.{Given, Failed}
use Rattle.status_report.specs.declared.device_entry.WriteRefusal.TheVariants as refusal
use Rattle.status_report.specs.declared.schedule_entry.SkipCause.TheVariants as skip
use Rattle.history.specs.Moment.{Moment, Part}
use Rattle.history.specs.Trace.{up, down, ticked, delivered, lost, repeated, dropped, device, accepted, refused, start, clock_stands, armed, skipped, fault, crashat, gives, rounds, rounds_done}
use Rattle.history_samples.specs.SampleOneNode as one
use Rattle.history_samples.specs.SampleOneNode.{line_of}
use Rattle.history_samples.specs.SampleSplit as split
use Rattle.history_samples.specs.SampleAmnesia.{create_group, both_again}
use Rattle.history_samples.specs.SampleMessages as messages
use Rattle.history_samples.specs.SampleContents as carried
use Rattle.history_samples.specs.SampleAnswers.{booted}

-- ---- skipped

abbrev pub skipped_down_but_up : List Moment
skipped_down_but_up = skipped skip.Down ∷ line_of (event.Tick 1) ∷ booted

abbrev pub ticked_while_down : List Moment
ticked_while_down = ticked 1 ∷ line_of (event.Tick 1) ∷ []

abbrev pub skipped_with_a_packet : List Moment
skipped_with_a_packet = skipped skip.NoPacket ∷ line_of (event.Next 1 2) ∷ messages.installing

abbrev pub skipped_with_work : List Moment
skipped_with_work = skipped skip.NoWork ∷ line_of (event.Disk 1) ∷ one.ticking

abbrev pub worked_without_work : List Moment
worked_without_work = device 1 1 command.Word (Given (answer.Word 0)) ∷ line_of (event.Disk 1) ∷ booted

-- ---- entries

abbrev pub two_device_lines : List Moment
two_device_lines =
    device 1 1 command.Word (Given (answer.Word 0))
    ∷ device 1 1 (command.Ignore one.key_1) (Given answer.Good)
    ∷ line_of (event.Disk 1)
    ∷ one.ticking

-- the task of node 1 registers its key first
abbrev pub another_command : List Moment
another_command = device 1 1 command.Word (Given (answer.Word 0)) ∷ line_of (event.Disk 1) ∷ one.ticking

abbrev pub lost_another : List Moment
lost_another = lost 2 ∷ line_of (event.Lose 1) ∷ messages.installing

abbrev pub copied_another : List Moment
copied_another = repeated 2 3 ∷ line_of (event.Repeat 1) ∷ messages.installing

abbrev pub clock_of_another : List Moment
clock_of_another = clock_stands 6 ∷ line_of (event.Clock 5) ∷ []

abbrev pub fault_not_armed : List Moment
fault_not_armed = fault 1 1 true ∷ booted

abbrev pub nothing_asked : List Moment
nothing_asked = gives 1 create_group ∷ booted

abbrev pub tick_of_the_rounds_line : List Moment
tick_of_the_rounds_line = ticked 1 ∷ rounds 1 1 ∷ booted

-- node 2 is down
abbrev pub delivered_to_the_down : List Moment
delivered_to_the_down = delivered 1 1 2 ∷ line_of (event.Next 1 2) ∷ down 2 cause.Crash ∷ line_of (event.Crash 2) ∷ messages.installing

abbrev pub dropped_at_the_down : List Moment
dropped_at_the_down = dropped 1 drop_cause.Down ∷ line_of (event.Next 1 2) ∷ down 2 cause.Crash ∷ line_of (event.Crash 2) ∷ messages.installing

-- ---- writes

abbrev pub refused_for_a_path : List Moment
refused_for_a_path = refused 2 1 5 refusal.NoPath ∷ line_of (event.Write 2 1 5) ∷ split.together

abbrev pub refused_as_fenced : List Moment
refused_as_fenced =
    down 2 (cause.Panic (panic.Fenced 1))
    ∷ refused 2 1 5 refusal.Fenced
    ∷ device 2 1 (command.Write 5) (Given answer.Conflict)
    ∷ line_of (event.Write 2 1 5)
    ∷ split.together

abbrev pub refused_for_a_fault : List Moment
refused_for_a_fault = refused 2 1 5 refusal.Fault ∷ device 2 1 (command.Write 5) Failed ∷ line_of (event.Write 2 1 5) ∷ split.together

abbrev pub refused_for_an_armed_fault : List Moment
refused_for_an_armed_fault =
    refused 2 1 5 refusal.Fault ∷ device 2 1 (command.Write 5) Failed ∷ line_of (event.Write 2 1 5) ∷ armed ∷ fault 2 1 true ∷ split.together

abbrev pub accepted_of_a_stranger : List Moment
accepted_of_a_stranger = accepted 65 2 1 5 ∷ split.written_by_no_member

-- node 2 is a member, and has no path to the device, or its membership does not hold it
abbrev pub accepted_without_a_path : List Moment
accepted_without_a_path = accepted 65 2 1 5 ∷ device 2 1 (command.Write 5) (Given answer.Good) ∷ line_of (event.Write 2 1 5) ∷ carried.formed

abbrev pub accepted_but_not_held : List Moment
accepted_but_not_held = accepted 65 2 1 5 ∷ device 2 1 (command.Write 5) (Given answer.Good) ∷ line_of (event.Write 2 1 5) ∷ messages.formed

-- ---- packets

abbrev pub lost_twice : List Moment
lost_twice = lost 3 ∷ lost 3 ∷ messages.started

abbrev pub dropped_for_the_pool : List Moment
dropped_for_the_pool = dropped 3 drop_cause.Pool ∷ messages.started

abbrev pub dropped_what_is_gone : List Moment
dropped_what_is_gone = dropped 3 drop_cause.Down ∷ messages.formed

abbrev pub dropped_the_newest : List Moment
dropped_the_newest = dropped 65 drop_cause.Link ∷ messages.packets_to 65

-- ---- rounds

abbrev pub delivering : List Moment
delivering = delivered 1 1 2 ∷ Part (event.Deliver 1) ∷ messages.round_begun

abbrev pub round_out_of_order : List Moment
round_out_of_order = Part (event.Tick 2) ∷ delivering

abbrev pub round_goes_on : List Moment
round_goes_on = Part (event.Tick 1) ∷ ticked 2 ∷ Part (event.Tick 2) ∷ ticked 1 ∷ Part (event.Tick 1) ∷ delivering

abbrev pub done_without_rounds : List Moment
done_without_rounds = rounds_done ∷ booted

-- ---- traces that are cut

abbrev pub cut_before_a_drop : List Moment
cut_before_a_drop = messages.packets_to 65

abbrev pub cut_before_a_base : List Moment
cut_before_a_base = start 193 3 1 1 ∷ both_again

abbrev pub cut_before_a_stop : List Moment
cut_before_a_stop = up 1 ∷ line_of (event.Boot 1) ∷ armed ∷ crashat 1 4 New ∷ []
