-- The moments by the words of their lines: `up n` is the entry that prints as the line `up N`, and `boots n` is the line `boot N` of a
-- schedule. Nothing is said here but how they are called.
use Rattle.std.specs.Prelude.{ℕ, List, Bool, Option}
use Rattle.cl_base.specs.declared.panic.Panic.TheVariants as panic
use Rattle.pgr_device.specs.declared.command.PrCommand.{PrCommand}
use Rattle.schedule_text.specs.declared.line.Line.TheVariants as line
use Rattle.schedule_text.specs.declared.event.Event.TheVariants as event
use Rattle.schedule_text.specs.declared.event.StopChoice.{StopChoice}
use Rattle.status_report.specs.declared.entry.Entry.TheVariants as entry
use Rattle.status_report.specs.declared.node_entry.NodeEntry.TheVariants as node
use Rattle.status_report.specs.declared.node_entry.DownCause.{DownCause}
use Rattle.status_report.specs.declared.node_entry.DownCause.TheVariants as cause
use Rattle.cl_base.specs.declared.packet.MessageName.{MessageName}
use Rattle.cl_base.specs.declared.packet.DropCause.{DropCause}
use Rattle.status_report.specs.declared.packet_entry.PacketEntry.TheVariants as packet
use Rattle.status_report.specs.declared.device_entry.DeviceAnswer.{DeviceAnswer}
use Rattle.status_report.specs.declared.device_entry.WriteRefusal.{WriteRefusal}
use Rattle.status_report.specs.declared.device_entry.DeviceEntry.TheVariants as device_entry
use Rattle.cl_base.specs.declared.seizing.Lack.{Lack}
use Rattle.status_report.specs.declared.attempt_entry.AttemptEntry.TheVariants as attempt_entry
use Rattle.status_report.specs.declared.start_entry.AdoptedFlags.{AdoptedFlags}
use Rattle.status_report.specs.declared.start_entry.StartEntry.TheVariants as start_entry
use Rattle.status_report.specs.declared.update_entry.UpdateEntry.TheVariants as update
use Rattle.status_report.specs.declared.address_entry.AddressEntry.TheVariants as address_entry
use Rattle.status_report.specs.declared.command_entry.Answer.{Answer}
use Rattle.status_report.specs.declared.command_entry.CommandEntry.TheVariants as command
use Rattle.status_report.specs.declared.schedule_entry.SkipCause.{SkipCause}
use Rattle.status_report.specs.declared.schedule_entry.ScheduleEntry.TheVariants as schedule
use Rattle.history.specs.Moment.{Moment, Said, Told}

-- ---- entries

pattern abbrev pub up : ℕ → Moment
up n = Told (entry.Node n node.Up)

pattern abbrev pub down : ℕ → DownCause → Moment
down n why = Told (entry.Node n (node.Down why))

-- `down n stopped` and `down n panic disk`: what the node saved last, or whether it did, is not known
pattern abbrev pub stopped : ℕ → Moment
stopped n = Told (entry.Node n (node.Down cause.Stopped))

pattern abbrev pub disk_failed : ℕ → Moment
disk_failed n = Told (entry.Node n (node.Down (cause.Panic panic.Disk)))

pattern abbrev pub ticked : ℕ → Moment
ticked n = Told (entry.Node n node.Ticked)

pattern abbrev pub saved : ℕ → Moment
saved n = Told (entry.Node n node.Saved)

pattern abbrev pub installed : ℕ → ℕ → Moment
installed n e = Told (entry.Node n (node.Installed e))

pattern abbrev pub member : ℕ → ℕ → Moment
member n e = Told (entry.Node n (node.Member e))

pattern abbrev pub sent : ℕ → ℕ → ℕ → MessageName → List ℕ → Moment
sent p from to message bytes = Told (entry.Packet (packet.Sent p from to message bytes))

pattern abbrev pub delivered : ℕ → ℕ → ℕ → Moment
delivered p from to = Told (entry.Packet (packet.Delivered p from to))

pattern abbrev pub lost : ℕ → Moment
lost p = Told (entry.Packet (packet.Lost p))

pattern abbrev pub repeated : ℕ → ℕ → Moment
repeated p copy = Told (entry.Packet (packet.Repeated p copy))

pattern abbrev pub dropped : ℕ → DropCause → Moment
dropped p why = Told (entry.Packet (packet.Dropped p why))

pattern abbrev pub device : ℕ → ℕ → PrCommand → DeviceAnswer → Moment
device n d command answer = Told (entry.Device (device_entry.Command n d command answer))

pattern abbrev pub accepted : ℕ → ℕ → ℕ → ℕ → Moment
accepted e n d value = Told (entry.Device (device_entry.Accepted e n d value))

pattern abbrev pub refused : ℕ → ℕ → ℕ → WriteRefusal → Moment
refused n d value why = Told (entry.Device (device_entry.Refused n d value why))

pattern abbrev pub attempt : ℕ → ℕ → Moment
attempt e members = Told (entry.Attempt (attempt_entry.Begun e members))

pattern abbrev pub ended_votes : ℕ → ℕ → ℕ → List Lack → Moment
ended_votes e have need lacking = Told (entry.Attempt (attempt_entry.Votes e have need lacking))

pattern abbrev pub ended_superseded : ℕ → ℕ → Moment
ended_superseded e q = Told (entry.Attempt (attempt_entry.Superseded e q))

pattern abbrev pub ended_silent : ℕ → ℕ → Moment
ended_silent e m = Told (entry.Attempt (attempt_entry.Silent e m))

pattern abbrev pub ended_excluded : ℕ → ℕ → Moment
ended_excluded e m = Told (entry.Attempt (attempt_entry.Excluded e m))

pattern abbrev pub ended_foreign : ℕ → ℕ → Moment
ended_foreign e m = Told (entry.Attempt (attempt_entry.Foreign e m))

pattern abbrev pub start : ℕ → ℕ → ℕ → ℕ → Moment
start e members held count = Told (entry.Start (start_entry.Started e members held count))

pattern abbrev pub base : ℕ → ℕ → List ℕ → Moment
base e v words = Told (entry.Start (start_entry.Base e v words))

pattern abbrev pub adopt : ℕ → ℕ → List ℕ → AdoptedFlags → Moment
adopt e n resource flags = Told (entry.Start (start_entry.Adopted e n resource flags))

pattern abbrev pub propose : ℕ → ℕ → List ℕ → Moment
propose e v words = Told (entry.Update (update.Proposed e v words))

pattern abbrev pub ack : ℕ → ℕ → List ℕ → Moment
ack e v words = Told (entry.Update (update.Acknowledged e v words))

pattern abbrev pub asked : ℕ → ℕ → Moment
asked n q = Told (entry.Command (command.Asked n q))

pattern abbrev pub answered : ℕ → ℕ → Answer → Moment
answered n q answer = Told (entry.Command (command.Answered n q answer))

pattern abbrev pub served : List ℕ → ℕ → ℕ → Option ℕ → Moment
served address client port node = Told (entry.Address (address_entry.Served address client port node))

pattern abbrev pub clock_stands : ℕ → Moment
clock_stands s = Told (entry.Schedule (schedule.Clock s))

pattern abbrev pub queued : Moment
queued = Told (entry.Schedule schedule.Queued)

pattern abbrev pub armed : Moment
armed = Told (entry.Schedule schedule.Armed)

pattern abbrev pub rounds_done : Moment
rounds_done = Told (entry.Schedule schedule.RoundsDone)

pattern abbrev pub skipped : SkipCause → Moment
skipped why = Told (entry.Schedule (schedule.Skipped why))

-- ---- lines of the schedule

pattern abbrev pub fault : ℕ → ℕ → Bool → Moment
fault n d done = Said (line.Event (event.Fault n d done))

pattern abbrev pub crashat : ℕ → ℕ → StopChoice → Moment
crashat n calls choice = Said (line.Event (event.CrashAt n calls choice))

pattern abbrev pub gives : ℕ → List ℕ → Moment
gives n words = Said (line.Event (event.Command n words))

pattern abbrev pub rounds : ℕ → ℕ → Moment
rounds count nodes = Said (line.Event (event.Rounds count nodes))
