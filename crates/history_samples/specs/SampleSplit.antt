-- Two nodes with a quorum device. They form a membership, 65; node 1 is then alone, forms another, 129, and takes the device from node 2,
-- whose write is refused. It goes down, comes back, and cannot form a membership by itself. In brief form: without messages.
use Rattle.std.specs.Prelude.{ℕ, List, [], ◌∷◌, true, false, Some}
use Rattle.cl_base.specs.declared.header.Header.{Header}
use Rattle.cl_base.specs.declared.header.Version.TheVariants.{One}
use Rattle.cl_base.specs.declared.header.DeviceKind.TheVariants.{Quorum}
use Rattle.cl_base.specs.declared.panic.Panic.TheVariants as panic
use Rattle.pgr_device.specs.declared.command.PrCommand.TheVariants as command
use Rattle.pgr_device.specs.declared.command.PrAnswer.TheVariants as answer
use Rattle.pgr_device.specs.declared.kind.PrKind.TheVariants.{WriteExclusiveRegistrantsOnly}
use Rattle.quorum_votes.specs.Votes.{first_of}
use Rattle.schedule_text.specs.declared.event.Event.TheVariants as event
use Rattle.status_report.specs.declared.node_entry.DownCause.TheVariants as cause
use Rattle.status_report.specs.declared.device_entry.DeviceAnswer.TheVariants.{Given}
use Rattle.status_report.specs.declared.device_entry.WriteRefusal.TheVariants as refusal
use Rattle.cl_base.specs.declared.seizing.Obstacle.TheVariants as lack
use Rattle.cl_base.specs.declared.seizing.SeizeEnd.TheVariants as end
use Rattle.status_report.specs.declared.command_entry.Answer.TheVariants.{BadValue}
use Rattle.history.specs.Moment.{Moment}
use Rattle.history.specs.Trace.{up, down, member, device, attempt, start, refused, installed, ended_votes}
use Rattle.history.specs.Setting.{Setting}
use Rattle.history_samples.specs.SampleOneNode.{line_of, key_1}

-- `cluster 2a`, `nodes 2`, `device 1 quorum 1 2`
abbrev pub two_nodes : Header
two_nodes = record { version = One; cluster = 42; nodes = 2; configured = 3; devices = record { kind = Quorum; attached = 3 } ∷ [] }

-- the votes never change, and every word is an update's
abbrev pub pair : Setting
pair = record {
  header = two_nodes;
  votes = λ updates. first_of two_nodes;
  cells = 65536;
  canonical = λ words. Some words;
  word_error = λ words. BadValue;
  is_update = λ words. true;
  is_query = λ words. false;
  refusal_text = λ why. [];
}

-- the same, but that node 2 alone has a path to the device
abbrev pub distant : Setting
distant = record pair { header = record two_nodes { devices = record { kind = Quorum; attached = 2 } ∷ [] } }

abbrev pub key_2 : ℕ
key_2 = 180388626434

-- node 1 seizes the device for 65
abbrev pub seizing_65 : List Moment
seizing_65 =
    device 1 1 command.Word (Given (answer.Word 65))
    ∷ device 1 1 command.Keys (Given (answer.Keys (key_1 ∷ key_2 ∷ [])))
    ∷ device 1 1 (command.Reserve WriteExclusiveRegistrantsOnly key_1) (Given answer.Good)
    ∷ device 1 1 (command.Swap 0 65) (Given answer.Good)
    ∷ device 1 1 command.Word (Given (answer.Word 0))
    ∷ device 1 1 command.Keys (Given (answer.Keys (key_1 ∷ key_2 ∷ [])))
    ∷ attempt 65 3
    ∷ up 2
    ∷ line_of (event.Boot 2)
    ∷ up 1
    ∷ line_of (event.Boot 1)
    ∷ []

abbrev pub together : List Moment
together = member 2 65 ∷ member 1 65 ∷ start 65 3 1 0 ∷ installed 2 65 ∷ installed 1 65 ∷ seizing_65

abbrev pub begun_129 : List Moment
begun_129 = attempt 129 1 ∷ together

-- node 1 alone has both keys before it, and the reservation
abbrev pub reserving_129 : List Moment
reserving_129 =
    device 1 1 command.Keys (Given (answer.Keys (key_1 ∷ key_2 ∷ [])))
    ∷ device 1 1 (command.Reserve WriteExclusiveRegistrantsOnly key_1) (Given answer.Good)
    ∷ device 1 1 (command.Swap 65 129) (Given answer.Good)
    ∷ device 1 1 command.Word (Given (answer.Word 65))
    ∷ device 1 1 command.Keys (Given (answer.Keys (key_1 ∷ key_2 ∷ [])))
    ∷ begun_129

-- it removes the key of node 2
abbrev pub seizing_129 : List Moment
seizing_129 =
    device 1 1 command.Word (Given (answer.Word 129))
    ∷ device 1 1 command.Keys (Given (answer.Keys (key_1 ∷ [])))
    ∷ device 1 1 (command.Preempt WriteExclusiveRegistrantsOnly key_1 key_2) (Given answer.Good)
    ∷ reserving_129

abbrev pub apart : List Moment
apart = member 1 129 ∷ start 129 1 1 0 ∷ installed 1 129 ∷ seizing_129

-- node 2 still takes itself for a member of 65
abbrev pub fenced : List Moment
fenced =
    down 2 (cause.Panic (panic.Fenced 1))
    ∷ refused 2 1 5 refusal.Fenced
    ∷ device 2 1 (command.Write 5) (Given answer.Conflict)
    ∷ line_of (event.Write 2 1 5)
    ∷ apart

abbrev pub alone_at_last : List Moment
alone_at_last =
    device 2 1 command.Keys (Given (answer.Keys (key_1 ∷ [])))
    ∷ attempt 130 2
    ∷ up 2
    ∷ line_of (event.Boot 2)
    ∷ fenced

abbrev pub split : List Moment
split = ended_votes 130 1 2 (record { device = 1; obstacle = lack.Seizing (end.NotRegistered tt) } ∷ []) ∷ alone_at_last

-- ---- what may not be

-- the device takes the write of node 2, whose key is gone
abbrev pub written_without_key : List Moment
written_without_key = device 2 1 (command.Write 5) (Given answer.Good) ∷ line_of (event.Write 2 1 5) ∷ apart

-- node 1 counts the device without removing that key: the reading has it still, and the device takes the write
abbrev pub started_too_early : List Moment
started_too_early = start 129 1 1 0 ∷ installed 1 129 ∷ device 1 1 command.Word (Given (answer.Word 129)) ∷ reserving_129

abbrev pub write_while_left_out : List Moment
write_while_left_out = device 2 1 (command.Write 5) (Given answer.Good) ∷ line_of (event.Write 2 1 5) ∷ member 1 129 ∷ started_too_early

-- node 2 writes as a member of 65, which holds nothing
abbrev pub written_to_what_is_not_held : List Moment
written_to_what_is_not_held = device 2 1 (command.Write 5) (Given answer.Good) ∷ member 2 65 ∷ start 65 3 0 0 ∷ up 2 ∷ up 1 ∷ []

-- node 2 writes before any membership
abbrev pub written_by_no_member : List Moment
written_by_no_member = device 2 1 (command.Write 5) (Given answer.Good) ∷ line_of (event.Write 2 1 5) ∷ up 2 ∷ line_of (event.Boot 2) ∷ []

-- the word that node 1 reads last is another one
abbrev pub held_by_another_word : List Moment
held_by_another_word =
    start 65 3 1 0
    ∷ device 1 1 command.Word (Given (answer.Word 129))
    ∷ device 1 1 command.Keys (Given (answer.Keys (key_1 ∷ key_2 ∷ [])))
    ∷ attempt 65 3
    ∷ []

-- a start that holds a device which nobody seized for it
abbrev pub held_by_nobody : List Moment
held_by_nobody = start 129 1 1 0 ∷ attempt 129 1 ∷ together

-- node 1 alone, without the device, has one vote of three
abbrev pub short_of_votes : List Moment
short_of_votes = start 129 1 0 0 ∷ attempt 129 1 ∷ together
