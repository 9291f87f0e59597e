-- A node that joins had read keys in an attempt of its own: node 2, which got as far as reading the keys for 66, promises 129, for which
-- node 1 seizes the device, and joins it by registering anew and reading the word.
use Rattle.std.specs.Prelude.{ℕ, List, [], ◌∷◌, ◌++◌}
use Rattle.cl_base.specs.declared.header.Header.{Header}
use Rattle.cl_base.specs.declared.header.DeviceKind.TheVariants.{Data}
use Rattle.cl_base.specs.declared.header.Version.TheVariants.{One}
use Rattle.pgr_device.specs.declared.command.PrCommand.TheVariants as command
use Rattle.pgr_device.specs.declared.command.PrAnswer.TheVariants as answer
use Rattle.pgr_device.specs.declared.kind.PrKind.TheVariants.{WriteExclusiveRegistrantsOnly}
use Rattle.quorum_votes.specs.Votes.{first_of}
use Rattle.schedule_text.specs.declared.event.Event.TheVariants as event
use Rattle.status_report.specs.declared.device_entry.DeviceAnswer.TheVariants.{Given}
use Rattle.history.specs.Moment.{Moment}
use Rattle.history_samples.specs.SampleNames as name
use Rattle.history.specs.Trace.{attempt, delivered, device, installed, member, saved, sent, start, up}
use Rattle.history.specs.Setting.{Setting}
use Rattle.history_samples.specs.SampleOneNode.{line_of, key_1}
use Rattle.history_samples.specs.SampleSplit.{key_2, pair}
use Rattle.history_samples.specs.SampleContents.{long}

-- `cluster 2a`, `nodes 3`, `device 1 data 1 2`
abbrev pub shared_by_two : Header
shared_by_two = record { version = One; cluster = 42; nodes = 3; configured = 7; devices = record { kind = Data; attached = 3 } ∷ [] }

-- the same, but for the nodes that are attached: 2 and 3
abbrev pub shared_by_others : Header
shared_by_others = record shared_by_two { devices = record { kind = Data; attached = 6 } ∷ [] }

abbrev pub sharing : Setting
sharing = record pair { header = shared_by_two; votes = λ updates. first_of shared_by_two }

abbrev pub key_3 : ℕ
key_3 = 180388626435

abbrev pub all_up : List Moment
all_up = up 3 ∷ line_of (event.Boot 3) ∷ up 2 ∷ line_of (event.Boot 2) ∷ up 1 ∷ line_of (event.Boot 1) ∷ []

abbrev pub read_before : List Moment
read_before =
    device 2 1 command.Keys (Given (answer.Keys (key_2 ∷ [])))
    ∷ device 2 1 (command.Reserve WriteExclusiveRegistrantsOnly key_2) (Given answer.Good)
    ∷ device 2 1 (command.Swap 0 66) (Given answer.Good)
    ∷ device 2 1 command.Word (Given (answer.Word 0))
    ∷ device 2 1 (command.Ignore key_2) (Given answer.Good)
    ∷ attempt 66 6
    ∷ all_up

abbrev pub promising : List Moment → List Moment
promising before =
    sent 3 2 1 name.Promise []
    ∷ saved 2
    ∷ delivered 1 1 2
    ∷ line_of (event.Next 1 2)
    ∷ sent 2 1 3 name.Collect []
    ∷ sent 1 1 2 name.Collect []
    ∷ attempt 129 7
    ∷ before

-- both other nodes promise
abbrev pub all_promised : List Moment
all_promised =
    delivered 6 3 1
    ∷ line_of (event.Next 3 1)
    ∷ sent 6 3 1 name.Promise []
    ∷ saved 3
    ∷ delivered 2 1 3
    ∷ line_of (event.Next 1 3)
    ∷ delivered 3 2 1
    ∷ line_of (event.Next 2 1)
    ∷ promising read_before

abbrev pub seized_by_1 : List Moment
seized_by_1 =
    device 1 1 command.Word (Given (answer.Word 129))
    ∷ device 1 1 command.Keys (Given (answer.Keys (key_2 ∷ key_1 ∷ [])))
    ∷ device 1 1 (command.Reserve WriteExclusiveRegistrantsOnly key_1) (Given answer.Conflict)
    ∷ device 1 1 (command.Swap 66 129) (Given answer.Good)
    ∷ device 1 1 command.Word (Given (answer.Word 66))
    ∷ device 1 1 (command.Ignore key_1) (Given answer.Good)
    ∷ all_promised

abbrev pub installed_by_2 : List Moment
installed_by_2 =
    installed 2 129
    ∷ saved 2
    ∷ delivered 4 1 2
    ∷ line_of (event.Next 1 2)
    ∷ sent 4 1 2 name.Install []
    ∷ installed 1 129
    ∷ saved 1
    ∷ seized_by_1

-- before it has joined the device
abbrev pub a_member : List Moment
a_member = member 2 129 ∷ installed_by_2

abbrev pub registered : List Moment
registered = device 2 1 (command.Ignore key_2) (Given answer.Good) ∷ line_of (event.Disk 2) ∷ installed_by_2

abbrev pub joined : List Moment
joined = device 2 1 command.Word (Given (answer.Word 129)) ∷ line_of (event.Disk 2) ∷ registered

abbrev pub started : List Moment
started = start 129 7 1 0 ∷ joined

-- ---- what may not be

-- node 1 does not read the word, and node 2 joins: nobody has seized the device
abbrev pub joined_unseized : List Moment
joined_unseized =
    start 129 7 1 0
    ∷ device 2 1 command.Word (Given (answer.Word 129))
    ∷ device 2 1 (command.Ignore key_2) (Given answer.Good)
    ∷ installed 2 129
    ∷ installed 1 129
    ∷ device 1 1 command.Keys (Given (answer.Keys (key_2 ∷ key_1 ∷ [])))
    ∷ device 1 1 (command.Reserve WriteExclusiveRegistrantsOnly key_1) (Given answer.Conflict)
    ∷ device 1 1 (command.Swap 66 129) (Given answer.Good)
    ∷ device 1 1 command.Word (Given (answer.Word 66))
    ∷ device 1 1 (command.Ignore key_1) (Given answer.Good)
    ∷ promising read_before

-- node 2 seizes the device, and node 3 joins it; a Seized tells node 1 that it is held, or none comes
abbrev pub seized_by_2 : List Moment
seized_by_2 =
    device 2 1 command.Word (Given (answer.Word 129))
    ∷ device 2 1 command.Keys (Given (answer.Keys (key_2 ∷ [])))
    ∷ device 2 1 (command.Reserve WriteExclusiveRegistrantsOnly key_2) (Given answer.Good)
    ∷ device 2 1 (command.Swap 0 129) (Given answer.Good)
    ∷ device 2 1 command.Word (Given (answer.Word 0))
    ∷ device 2 1 (command.Ignore key_2) (Given answer.Good)
    ∷ promising all_up

abbrev pub joining_of_3 : List Moment → List Moment
joining_of_3 before =
    device 3 1 command.Word (Given (answer.Word 129))
    ∷ device 3 1 (command.Ignore key_3) (Given answer.Good)
    ∷ installed 3 129
    ∷ installed 2 129
    ∷ installed 1 129
    ∷ before

abbrev pub told_held : List Moment
told_held =
    start 129 7 1 0
    ∷ joining_of_3 (delivered 4 2 1 ∷ sent 4 2 1 (name.Seized 1) (7 ∷ 2 ∷ long 129 ++ 1 ∷ 0 ∷ long 0 ++ 0 ∷ 1 ∷ 0 ∷ 0 ∷ 0 ∷ 42 ∷ 0 ∷ 0 ∷ 0 ∷ 2 ∷ []) ∷ seized_by_2)

abbrev pub held_untold : List Moment
held_untold = start 129 7 1 0 ∷ joining_of_3 seized_by_2
