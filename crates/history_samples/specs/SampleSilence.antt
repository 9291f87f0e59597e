-- Attempts in which the coordinator waits for itself: node 1 has commands of its own to do on devices.
use Rattle.std.specs.Prelude.{List, [], ◌∷◌}
use Rattle.cl_base.specs.declared.header.Header.{Header}
use Rattle.cl_base.specs.declared.header.Version.TheVariants.{One}
use Rattle.cl_base.specs.declared.header.DeviceKind.TheVariants.{Data, Quorum}
use Rattle.pgr_device.specs.declared.command.PrCommand.TheVariants as command
use Rattle.pgr_device.specs.declared.command.PrAnswer.TheVariants as answer
use Rattle.pgr_device.specs.declared.kind.PrKind.TheVariants.{WriteExclusiveRegistrantsOnly}
use Rattle.schedule_text.specs.declared.event.Event.TheVariants as event
use Rattle.history_samples.specs.SampleNames as name
use Rattle.status_report.specs.declared.device_entry.DeviceAnswer.TheVariants.{Given}
use Rattle.history.specs.Moment.{Moment}
use Rattle.history.specs.Trace.{sent, delivered, device, attempt, ended_silent}
use Rattle.history.specs.Setting.{Setting}
use Rattle.history_samples.specs.SampleOneNode.{line_of, ticking, key_1}
use Rattle.history_samples.specs.SampleSplit.{pair}
use Rattle.history_samples.specs.SampleAnswers.{ticks, booted}

-- three nodes and three devices; the first task of node 1 comes with packet 4, the last Promise, and the second once the first is over
abbrev pub three_nodes : Header
three_nodes = record {
  version = One;
  cluster = 42;
  nodes = 3;
  configured = 7;
  devices = record { kind = Quorum; attached = 7 } ∷ record { kind = Data; attached = 7 } ∷ record { kind = Quorum; attached = 6 } ∷ [];
}

abbrev pub seizing : Setting
seizing = record pair { header = three_nodes }

-- node 1 has no path to a device
abbrev pub collecting : Setting
collecting = record pair {
  header = record three_nodes {
    devices = record { kind = Quorum; attached = 6 } ∷ record { kind = Data; attached = 6 } ∷ record { kind = Quorum; attached = 6 } ∷ [];
  };
}

abbrev pub asked_both : List Moment
asked_both = sent 2 1 3 name.Collect [] ∷ sent 1 1 2 name.Collect [] ∷ attempt 65 7 ∷ booted

-- the first Promise comes after three ticks, the last after two more
abbrev pub promised_by_2 : List Moment
promised_by_2 =
    delivered 3 2 1
    ∷ line_of (event.Next 2 1)
    ∷ sent 3 2 1 name.Promise []
    ∷ delivered 1 1 2
    ∷ line_of (event.Next 1 2)
    ∷ ticks 3 asked_both

abbrev pub promised : List Moment
promised =
    delivered 4 3 1
    ∷ line_of (event.Next 3 1)
    ∷ sent 4 3 1 name.Promise []
    ∷ delivered 2 1 3
    ∷ line_of (event.Next 1 3)
    ∷ ticks 2 promised_by_2

abbrev pub own_silence : List Moment
own_silence = ended_silent 65 1 ∷ ticks 8 promised

abbrev pub own_silence_too_early : List Moment
own_silence_too_early = ended_silent 65 1 ∷ ticks 7 promised

-- node 1 seized the quorum device after four more, and the other one is left
abbrev pub seized : List Moment
seized =
    device 1 1 command.Word (Given (answer.Word 65))
    ∷ line_of (event.Disk 1)
    ∷ device 1 1 command.Keys (Given (answer.Keys (key_1 ∷ [])))
    ∷ device 1 1 (command.Reserve WriteExclusiveRegistrantsOnly key_1) (Given answer.Good)
    ∷ device 1 1 (command.Swap 0 65) (Given answer.Good)
    ∷ device 1 1 command.Word (Given (answer.Word 0))
    ∷ device 1 1 command.Keys (Given (answer.Keys (key_1 ∷ [])))
    ∷ ticks 4 promised

abbrev pub later_silence : List Moment
later_silence = ended_silent 65 1 ∷ ticks 8 seized

abbrev pub later_silence_too_early : List Moment
later_silence_too_early = ended_silent 65 1 ∷ ticks 7 seized

-- beside the task of node 1, node 3 is asked after four more to seize a device on which node 2 was not registered
abbrev pub asked_next : List Moment
asked_next =
    sent 7 1 3 (name.SeizeQuorum 3) []
    ∷ delivered 6 2 1
    ∷ line_of (event.Next 2 1)
    ∷ sent 6 2 1 (name.Seized 3) []
    ∷ delivered 5 1 2
    ∷ line_of (event.Next 1 2)
    ∷ ticks 4 (sent 5 1 2 (name.SeizeQuorum 3) [] ∷ promised)

abbrev pub silence_after_asking : List Moment
silence_after_asking = ended_silent 65 1 ∷ ticks 8 asked_next

abbrev pub silence_soon_after_asking : List Moment
silence_soon_after_asking = ended_silent 65 1 ∷ ticks 7 asked_next

-- node 1 does nothing for its device, and the attempt goes on
abbrev pub own_task_too_long : List Moment
own_task_too_long = ticks 8 promised

abbrev pub own_task_in_time : List Moment
own_task_in_time = ticks 7 promised

abbrev pub later_task_too_long : List Moment
later_task_too_long = ticks 8 seized

abbrev pub later_task_in_time : List Moment
later_task_in_time = ticks 7 seized

-- alone it asks nobody
abbrev pub alone_too_long : List Moment
alone_too_long = ticks 8 ticking

abbrev pub alone_and_silent : List Moment
alone_and_silent = ended_silent 65 1 ∷ ticks 8 ticking

abbrev pub alone_in_time : List Moment
alone_in_time = ticks 7 ticking

-- of nodes 2 and 3, which do not answer, the least is named; and node 1 before node 2
abbrev pub named_the_least : List Moment
named_the_least = ended_silent 65 2 ∷ ticks 8 asked_both

abbrev pub named_the_greater : List Moment
named_the_greater = ended_silent 65 3 ∷ ticks 8 asked_both

abbrev pub named_another : List Moment
named_another = ended_silent 65 2 ∷ ticks 8 (sent 5 1 2 (name.SeizeQuorum 3) [] ∷ promised)

-- node 2, which was asked for a device, and node 3, which was asked for another four ticks later, do not answer
abbrev pub asked_later : List Moment
asked_later = sent 6 1 3 (name.SeizeQuorum 1) [] ∷ ticks 4 (sent 5 1 2 (name.SeizeQuorum 3) [] ∷ promised)

abbrev pub silence_of_2 : List Moment
silence_of_2 = ended_silent 65 2 ∷ ticks 8 asked_later

abbrev pub silence_of_2_too_early : List Moment
silence_of_2_too_early = ended_silent 65 2 ∷ ticks 7 asked_later
