-- A node alone with a data device: it forms a membership and writes.
use Rattle.std.specs.Prelude.{ℕ, List, [], ◌∷◌, true, false, Some}
use Rattle.cl_base.specs.declared.header.Header.{Header}
use Rattle.cl_base.specs.declared.header.Version.TheVariants.{One}
use Rattle.cl_base.specs.declared.header.DeviceKind.TheVariants.{Data}
use Rattle.pgr_device.specs.declared.command.PrCommand.TheVariants as command
use Rattle.pgr_device.specs.declared.command.PrAnswer.TheVariants as answer
use Rattle.pgr_device.specs.declared.kind.PrKind.TheVariants.{WriteExclusiveRegistrantsOnly}
use Rattle.quorum_votes.specs.Votes.{first_of}
use Rattle.schedule_text.specs.declared.line.Line.TheVariants as line
use Rattle.schedule_text.specs.declared.event.Event.{Event}
use Rattle.schedule_text.specs.declared.event.Event.TheVariants as event
use Rattle.status_report.specs.declared.device_entry.DeviceAnswer.TheVariants.{Given}
use Rattle.status_report.specs.declared.command_entry.Answer.TheVariants.{BadValue}
use Rattle.history.specs.Moment.{Moment, Said}
use Rattle.history.specs.Trace.{up, stopped, ticked, saved, installed, member, device, attempt, start, accepted}
use Rattle.history.specs.Setting.{Setting}

-- a line of the schedule
abbrev pub line_of : Event → Moment
line_of what = Said (line.Event what)

-- `cluster 2a`, `nodes 1`, `device 1 data 1`
abbrev pub one_node : Header
one_node = record { version = One; cluster = 42; nodes = 1; configured = 1; devices = record { kind = Data; attached = 1 } ∷ [] }

abbrev pub alone : Setting
alone = record {
  header = one_node;
  votes = λ updates. first_of one_node;
  cells = 65536;
  canonical = λ words. Some words;
  word_error = λ words. BadValue;
  is_update = λ words. true;
  is_query = λ words. false;
  refusal_text = λ refusal. [];
}

-- the key of node 1, 2a00000001
abbrev pub key_1 : ℕ
key_1 = 180388626433

abbrev pub ticking : List Moment
ticking =
    attempt 65 1
    ∷ saved 1
    ∷ ticked 1
    ∷ line_of (event.Tick 1)
    ∷ ticked 1
    ∷ line_of (event.Tick 1)
    ∷ ticked 1
    ∷ line_of (event.Tick 1)
    ∷ up 1
    ∷ line_of (event.Boot 1)
    ∷ []

abbrev pub seizing : List Moment
seizing =
    device 1 1 command.Keys (Given (answer.Keys (key_1 ∷ [])))
    ∷ line_of (event.Disk 1)
    ∷ device 1 1 (command.Reserve WriteExclusiveRegistrantsOnly key_1) (Given answer.Good)
    ∷ line_of (event.Disk 1)
    ∷ device 1 1 (command.Swap 0 65) (Given answer.Good)
    ∷ line_of (event.Disk 1)
    ∷ device 1 1 command.Word (Given (answer.Word 0))
    ∷ line_of (event.Disk 1)
    ∷ device 1 1 (command.Ignore key_1) (Given answer.Good)
    ∷ line_of (event.Disk 1)
    ∷ ticking

abbrev pub forming : List Moment
forming =
    member 1 65
    ∷ start 65 1 1 0
    ∷ installed 1 65
    ∷ saved 1
    ∷ device 1 1 command.Word (Given (answer.Word 65))
    ∷ line_of (event.Disk 1)
    ∷ seizing

-- it installs, and the membership does not start
abbrev pub installed_alone : List Moment
installed_alone = installed 1 65 ∷ saved 1 ∷ device 1 1 command.Word (Given (answer.Word 65)) ∷ line_of (event.Disk 1) ∷ seizing

-- or it stops before that
abbrev pub stopped_alone : List Moment
stopped_alone = stopped 1 ∷ installed_alone

abbrev pub writing : List Moment
writing =
    accepted 65 1 1 7
    ∷ device 1 1 (command.Write 7) (Given answer.Good)
    ∷ line_of (event.Write 1 1 7)
    ∷ forming
