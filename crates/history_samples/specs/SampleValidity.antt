-- How the validity of a device in a node's record changes, on the quorum device of two nodes.
use Rattle.std.specs.Prelude.{List, [], ◌∷◌}
use Rattle.pgr_device.specs.declared.command.PrCommand.TheVariants as command
use Rattle.pgr_device.specs.declared.command.PrAnswer.TheVariants as answer
use Rattle.pgr_device.specs.declared.kind.PrKind.TheVariants.{WriteExclusiveRegistrantsOnly}
use Rattle.schedule_text.specs.declared.event.Event.TheVariants as event
use Rattle.history_samples.specs.SampleNames as name
use Rattle.status_report.specs.declared.device_entry.DeviceAnswer.TheVariants.{Given}
use Rattle.status_report.specs.declared.node_entry.DownCause.TheVariants as cause
use Rattle.history.specs.Moment.{Moment}
use Rattle.history.specs.Trace.{device, installed, attempt, stopped, sent, delivered, saved, down}
use Rattle.history_samples.specs.SampleOneNode.{line_of, key_1}
use Rattle.history_samples.specs.SampleSplit.{key_2, together, apart}

-- after the greater membership both are members of 193, for which node 1 seizes the device; it does not see the key of node 2
abbrev pub unseen : List Moment
unseen =
    installed 2 193
    ∷ installed 1 193
    ∷ device 1 1 command.Word (Given (answer.Word 193))
    ∷ device 1 1 command.Keys (Given (answer.Keys (key_1 ∷ [])))
    ∷ device 1 1 (command.Reserve WriteExclusiveRegistrantsOnly key_1) (Given answer.Good)
    ∷ attempt 193 3
    ∷ apart

abbrev pub registered_again : List Moment
registered_again = device 2 1 (command.Ignore key_2) (Given answer.Good) ∷ unseen

abbrev pub joined : List Moment
joined = device 2 1 command.Word (Given (answer.Word 193)) ∷ registered_again

-- the word has grown since
abbrev pub too_late : List Moment
too_late = device 2 1 command.Word (Given (answer.Word 257)) ∷ registered_again

-- it registered, and then promised another number: what it reads then is no joining
abbrev pub moved_on : List Moment
moved_on =
    device 2 1 command.Word (Given (answer.Word 193))
    ∷ line_of (event.Disk 2)
    ∷ sent 2 2 1 name.Promise []
    ∷ saved 2
    ∷ delivered 1 1 2
    ∷ line_of (event.Next 1 2)
    ∷ sent 1 1 2 name.Collect []
    ∷ attempt 257 3
    ∷ registered_again

-- it stops in a save
abbrev pub unknown : List Moment
unknown = stopped 2 ∷ joined

-- ---- members

abbrev pub crashed : List Moment
crashed = down 2 cause.Crash ∷ line_of (event.Crash 2) ∷ together

-- node 2 saves its promise of a Collect
abbrev pub promising : List Moment
promising = saved 2 ∷ delivered 1 1 2 ∷ line_of (event.Next 1 2) ∷ sent 1 1 2 name.Collect [] ∷ attempt 129 3 ∷ together

-- it gets a Collect that it does not follow
abbrev pub unmoved : List Moment
unmoved = delivered 1 1 2 ∷ line_of (event.Next 1 2) ∷ sent 1 1 2 name.Collect [] ∷ attempt 129 3 ∷ together
