-- What the types of an entry's parts allow: numbers have 64 bits, sets of numbers have 32, names are names,
-- bytes are below 256, and what a line holds as it is has no newline.
use Rattle.std.specs.Prelude.{◌≡◌, ◌≢◌, ℕ, ◌<◌, ◌^◌, List, [], ◌∷◌, ◌++◌, Option, Some, None}
use Rattle.std.specs.List.{AllByRecursion}
use Rattle.cl_base.specs.Names.{IsName}
use Rattle.cl_base.specs.declared.panic.Panic.{Panic}
use Rattle.cl_base.specs.declared.panic.Panic.TheVariants as panic
use Rattle.cl_base.specs.declared.reason.Reason.{Reason}
use Rattle.cl_base.specs.declared.reason.Reason.TheVariants as reason
use Rattle.cl_base.specs.declared.refusal.Thing.{Thing}
use Rattle.cl_base.specs.declared.refusal.Thing.TheVariants as thing
use Rattle.cl_base.specs.declared.refusal.Refusal.{Refusal}
use Rattle.cl_base.specs.declared.refusal.Refusal.TheVariants as refusal
use Rattle.cl_base.specs.declared.packet.MessageName.{MessageName}
use Rattle.cl_base.specs.declared.seizing.Lack.{Lack}
use Rattle.cl_base.specs.declared.seizing.Obstacle.{Obstacle}
use Rattle.cl_base.specs.declared.seizing.Obstacle.TheVariants.{NoPath, Seizing}
use Rattle.cl_base.specs.declared.seizing.SeizeEnd.{SeizeEnd}
use Rattle.cl_base.specs.declared.seizing.SeizeEnd.TheVariants as seized
use Rattle.hex.specs.Hex.{IsBytes}
use Rattle.pgr_device.specs.declared.kind.PrKind.{PrKind}
use Rattle.pgr_device.specs.declared.command.PrAnswer.{PrAnswer}
use Rattle.pgr_device.specs.declared.command.PrAnswer.TheVariants as given
use Rattle.pgr_device.specs.declared.command.PrCommand.{PrCommand}
use Rattle.pgr_device.specs.declared.command.PrCommand.TheVariants as command
use Rattle.status_report.specs.declared.address_entry.AddressEntry.{AddressEntry}
use Rattle.status_report.specs.declared.address_entry.AddressEntry.TheVariants as address
use Rattle.status_report.specs.declared.attempt_entry.AttemptEntry.{AttemptEntry}
use Rattle.status_report.specs.declared.attempt_entry.AttemptEntry.TheVariants as attempt
use Rattle.status_report.specs.declared.call_entry.CallEntry.{CallEntry}
use Rattle.status_report.specs.declared.call_entry.CallEntry.TheVariants as call
use Rattle.status_report.specs.declared.command_entry.Answer.{Answer}
use Rattle.status_report.specs.declared.command_entry.Answer.TheVariants as answer
use Rattle.status_report.specs.declared.command_entry.CommandEntry.{CommandEntry}
use Rattle.status_report.specs.declared.command_entry.CommandEntry.TheVariants as asking
use Rattle.status_report.specs.declared.device_entry.DeviceAnswer.{DeviceAnswer}
use Rattle.status_report.specs.declared.device_entry.DeviceAnswer.TheVariants.{Given, Failed}
use Rattle.status_report.specs.declared.device_entry.DeviceEntry.{DeviceEntry}
use Rattle.status_report.specs.declared.device_entry.DeviceEntry.TheVariants as device
use Rattle.status_report.specs.declared.node_entry.DownCause.{DownCause}
use Rattle.status_report.specs.declared.node_entry.DownCause.TheVariants as down
use Rattle.status_report.specs.declared.node_entry.NodeEntry.{NodeEntry}
use Rattle.status_report.specs.declared.node_entry.NodeEntry.TheVariants as node
use Rattle.status_report.specs.declared.packet_entry.PacketEntry.{PacketEntry}
use Rattle.status_report.specs.declared.packet_entry.PacketEntry.TheVariants as packet
use Rattle.status_report.specs.declared.schedule_entry.ScheduleEntry.{ScheduleEntry}
use Rattle.status_report.specs.declared.schedule_entry.ScheduleEntry.TheVariants as schedule
use Rattle.status_report.specs.declared.start_entry.StartEntry.{StartEntry}
use Rattle.status_report.specs.declared.start_entry.StartEntry.TheVariants as start
use Rattle.status_report.specs.declared.status_entry.TableLine.{TableLine}
use Rattle.status_report.specs.declared.status_entry.TableLine.TheVariants as table
use Rattle.status_report.specs.declared.status_entry.StatusEntry.{StatusEntry}
use Rattle.status_report.specs.declared.status_entry.StatusEntry.TheVariants as status
use Rattle.status_report.specs.declared.update_entry.UpdateEntry.{UpdateEntry}
use Rattle.status_report.specs.declared.update_entry.UpdateEntry.TheVariants as update
use Rattle.status_report.specs.declared.entry.Entry.{Entry}
use Rattle.status_report.specs.declared.entry.Entry.TheVariants as entry

abbrev pub IsNumber : ℕ → Type 0
IsNumber n = n < 2 ^ 64

abbrev pub IsSet : ℕ → Type 0
IsSet set = set < 2 ^ 32

-- bytes without a newline, which is 10
abbrev pub IsLine : List ℕ → Type 0
IsLine bytes = AllByRecursion (λ b. b ≢ 10) bytes

-- the key of a row has no tab, which is 9
abbrev pub IsKey : List ℕ → Type 0
IsKey bytes = AllByRecursion (λ b. b ≢ 9) bytes

abbrev pub IsHeld : Option (ℕ × PrKind) → Type 0
IsHeld None = Unit {0}
IsHeld (Some held) = IsNumber held.0

abbrev pub IsPrAnswer : PrAnswer → Type 0
IsPrAnswer given.Good = Unit {0}
IsPrAnswer given.Conflict = Unit {0}
IsPrAnswer given.InvalidRelease = Unit {0}
IsPrAnswer given.NoPath = Unit {0}
IsPrAnswer (given.Keys keys) = AllByRecursion IsNumber keys
IsPrAnswer (given.Holder holder) = IsHeld holder
IsPrAnswer (given.Word word) = IsNumber word
IsPrAnswer (given.Value value) = IsNumber value
IsPrAnswer (given.Miscompare word) = IsNumber word

abbrev pub IsPrCommand : PrCommand → Type 0
IsPrCommand (command.Register key new) = IsNumber key × IsNumber new
IsPrCommand (command.Ignore new) = IsNumber new
IsPrCommand (command.Reserve kind key) = IsNumber key
IsPrCommand (command.Release kind key) = IsNumber key
IsPrCommand (command.Clear key) = IsNumber key
IsPrCommand (command.Preempt kind key victim) = IsNumber key × IsNumber victim
IsPrCommand command.Keys = Unit {0}
IsPrCommand command.Holder = Unit {0}
IsPrCommand command.Read = Unit {0}
IsPrCommand (command.Write value) = IsNumber value
IsPrCommand command.Word = Unit {0}
IsPrCommand (command.Swap expect new) = IsNumber expect × IsNumber new

abbrev pub IsPanic : Panic → Type 0
IsPanic (panic.Fenced device) = IsNumber device
IsPanic (panic.Excluded epoch) = IsNumber epoch
IsPanic panic.Disk = Unit {0}
IsPanic (panic.Stop resource) = IsName resource

abbrev pub IsDown : DownCause → Type 0
IsDown down.Crash = Unit {0}
IsDown down.Stopped = Unit {0}
IsDown (down.Panic cause) = IsPanic cause

abbrev pub IsNodeEntry : NodeEntry → Type 0
IsNodeEntry node.Up = Unit {0}
IsNodeEntry (node.Down cause) = IsDown cause
IsNodeEntry node.Ticked = Unit {0}
IsNodeEntry node.Saved = Unit {0}
IsNodeEntry (node.Installed epoch) = IsNumber epoch
IsNodeEntry (node.Member epoch) = IsNumber epoch

abbrev pub IsNumbered : Option ℕ → Type 0
IsNumbered None = Unit {0}
IsNumbered (Some number) = IsNumber number

abbrev pub IsMessage : MessageName → Type 0
IsMessage name = IsNumbered name.number

abbrev pub IsPacketEntry : PacketEntry → Type 0
IsPacketEntry (packet.Sent number from to name bytes) = IsNumber number × IsNumber from × IsNumber to × IsMessage name × IsBytes bytes
IsPacketEntry (packet.Delivered number from to) = IsNumber number × IsNumber from × IsNumber to
IsPacketEntry (packet.Lost number) = IsNumber number
IsPacketEntry (packet.Repeated number copy) = IsNumber number × IsNumber copy
IsPacketEntry (packet.Dropped number cause) = IsNumber number

abbrev pub IsDeviceAnswer : DeviceAnswer → Type 0
IsDeviceAnswer (Given answer) = IsPrAnswer answer
IsDeviceAnswer Failed = Unit {0}

abbrev pub IsDeviceEntry : DeviceEntry → Type 0
IsDeviceEntry (device.Command node number command answer) = IsNumber node × IsNumber number × IsPrCommand command × IsDeviceAnswer answer
IsDeviceEntry (device.Accepted epoch node number value) = IsNumber epoch × IsNumber node × IsNumber number × IsNumber value
IsDeviceEntry (device.Refused node number value cause) = IsNumber node × IsNumber number × IsNumber value

abbrev pub IsSeizeEnd : SeizeEnd Unit → Type 0
IsSeizeEnd (seized.Held u) = Unit {0}
IsSeizeEnd (seized.NotRegistered u) = Unit {0}
IsSeizeEnd (seized.Greater word) = IsNumber word
IsSeizeEnd seized.Expelled = Unit {0}
IsSeizeEnd (seized.Contended key) = IsNumber key
IsSeizeEnd seized.Fault = Unit {0}

abbrev pub IsObstacle : Obstacle → Type 0
IsObstacle NoPath = Unit {0}
IsObstacle (Seizing end) = IsSeizeEnd end

abbrev pub IsLack : Lack → Type 0
IsLack l = IsNumber l.device × IsObstacle l.obstacle

abbrev pub IsAttemptEntry : AttemptEntry → Type 0
IsAttemptEntry (attempt.Begun epoch members) = IsNumber epoch × IsSet members
IsAttemptEntry (attempt.Votes epoch have need lacking) = IsNumber epoch × IsNumber have × IsNumber need × AllByRecursion IsLack lacking
IsAttemptEntry (attempt.Superseded epoch by) = IsNumber epoch × IsNumber by
IsAttemptEntry (attempt.Silent epoch node) = IsNumber epoch × IsNumber node
IsAttemptEntry (attempt.Excluded epoch node) = IsNumber epoch × IsNumber node
IsAttemptEntry (attempt.Foreign epoch node) = IsNumber epoch × IsNumber node

abbrev pub IsStartEntry : StartEntry → Type 0
IsStartEntry (start.Started epoch members held base) = IsNumber epoch × IsSet members × IsSet held × IsNumber base
IsStartEntry (start.Base epoch place words) = IsNumber epoch × IsNumber place × IsLine words
IsStartEntry (start.Adopted epoch node resource flags) = IsNumber epoch × IsNumber node × IsName resource

abbrev pub IsUpdateEntry : UpdateEntry → Type 0
IsUpdateEntry (update.Proposed epoch place words) = IsNumber epoch × IsNumber place × IsLine words
IsUpdateEntry (update.Acknowledged epoch place words) = IsNumber epoch × IsNumber place × IsLine words

abbrev pub IsCallEntry : CallEntry → Type 0
IsCallEntry (call.Called epoch node method resource) = IsNumber epoch × IsNumber node × IsName resource
IsCallEntry (call.Done epoch node method resource outcome) = IsNumber epoch × IsNumber node × IsName resource
IsCallEntry (call.Probed node resource found) = IsNumber node × IsName resource

abbrev pub IsThing : Thing → Type 0
IsThing (thing.Named name) = IsName name
IsThing (thing.Numbered number) = IsNumber number

abbrev pub IsRefusal : Refusal → Type 0
IsRefusal (refusal.Unknown t) = IsThing t
IsRefusal refusal.Exists = Unit {0}
IsRefusal (refusal.InUse by) = IsName by
IsRefusal refusal.Managed = Unit {0}
IsRefusal refusal.Unmanaged = Unit {0}
IsRefusal refusal.SameValue = Unit {0}
IsRefusal (refusal.NotListed node) = IsNumber node
IsRefusal refusal.TooMany = Unit {0}
IsRefusal refusal.BadProperty = Unit {0}
IsRefusal refusal.BadSetting = Unit {0}
IsRefusal refusal.StillUp = Unit {0}
IsRefusal (refusal.Cycle names) = AllByRecursion IsName names
IsRefusal refusal.Single = Unit {0}
IsRefusal refusal.NoMark = Unit {0}
IsRefusal refusal.NodeIsMember = Unit {0}
IsRefusal refusal.DeviceNotHeld = Unit {0}
IsRefusal refusal.NodeHasVote = Unit {0}
IsRefusal (refusal.LoseQuorum have need) = IsNumber have × IsNumber need
IsRefusal (refusal.RecordFull length) = IsNumber length

abbrev pub IsAnswer : Answer → Type 0
IsAnswer answer.Ok = Unit {0}
IsAnswer answer.Unknown = Unit {0}
IsAnswer answer.UnknownCommand = Unit {0}
IsAnswer answer.MissingOperand = Unit {0}
IsAnswer answer.BadValue = Unit {0}
IsAnswer answer.NotMember = Unit {0}
IsAnswer (answer.Ask node) = IsNumber node
IsAnswer answer.QueueFull = Unit {0}
IsAnswer (answer.Refused why) = IsRefusal why

abbrev pub IsCommandEntry : CommandEntry → Type 0
IsCommandEntry (asking.Asked node number) = IsNumber node × IsNumber number
IsCommandEntry (asking.Answered node number reply) = IsNumber node × IsNumber number × IsAnswer reply

abbrev pub IsReason : Reason → Type 0
IsReason reason.Unmanaged = Unit {0}
IsReason reason.Offline = Unit {0}
IsReason reason.Suspended = Unit {0}
IsReason reason.Empty = Unit {0}
IsReason reason.NotMember = Unit {0}
IsReason reason.StopFailed = Unit {0}
IsReason reason.Evacuated = Unit {0}
IsReason reason.StartFailed = Unit {0}
IsReason reason.Moved = Unit {0}
IsReason reason.Leaving = Unit {0}
IsReason (reason.Affinity target) = IsName target
IsReason (reason.Dependency target) = IsName target
IsReason (reason.Load limit) = IsName limit
IsReason (reason.Faulted resource) = IsName resource
IsReason (reason.Blocked resource) = IsName resource

abbrev pub IsTableLine : TableLine → Type 0
IsTableLine (table.Generation number) = IsNumber number
IsTableLine (table.Checksum digest) = IsBytes digest
IsTableLine (table.Row key value) = IsKey key × IsLine key × IsLine value

abbrev pub IsStatusEntry : StatusEntry → Type 0
IsStatusEntry (status.Group name node state) = IsName name × IsNumber node
IsStatusEntry (status.Why name node why) = IsName name × IsNumber node × IsReason why
IsStatusEntry (status.Resource name node state) = IsName name × IsNumber node
IsStatusEntry (status.QuorumVotes total need) = IsNumber total × IsNumber need
IsStatusEntry (status.QuorumNode node vote member) = IsNumber node × IsNumber vote
IsStatusEntry (status.QuorumDevice number votes state) = IsNumber number × IsNumber votes
IsStatusEntry (status.Table line) = IsTableLine line

abbrev pub IsAddressEntry : AddressEntry → Type 0
IsAddressEntry (address.Served name client port node) = IsName name × IsNumber client × IsNumber port × IsNumbered node
IsAddressEntry (address.Forgot name client port) = IsName name × IsNumber client × IsNumber port

abbrev pub IsScheduleEntry : ScheduleEntry → Type 0
IsScheduleEntry (schedule.Clock second) = IsNumber second
IsScheduleEntry schedule.Queued = Unit {0}
IsScheduleEntry schedule.Armed = Unit {0}
IsScheduleEntry schedule.RoundsDone = Unit {0}
IsScheduleEntry (schedule.Skipped cause) = Unit {0}

abbrev pub IsEntry : Entry → Type 0
IsEntry (entry.Answered reply) = IsPrAnswer reply
IsEntry entry.Powered = Unit {0}
IsEntry (entry.Node number told) = IsNumber number × IsNodeEntry told
IsEntry (entry.Packet told) = IsPacketEntry told
IsEntry (entry.Device told) = IsDeviceEntry told
IsEntry (entry.Attempt told) = IsAttemptEntry told
IsEntry (entry.Start told) = IsStartEntry told
IsEntry (entry.Update told) = IsUpdateEntry told
IsEntry (entry.Call told) = IsCallEntry told
IsEntry (entry.Command told) = IsCommandEntry told
IsEntry (entry.Status told) = IsStatusEntry told
IsEntry (entry.Address told) = IsAddressEntry told
IsEntry (entry.Schedule told) = IsScheduleEntry told

-- one line: only its last byte is a newline
pub record IsOneLine (bytes : List ℕ) : Type 0 where
  pub text : List ℕ
  pub ended : bytes ≡ text ++ 10 ∷ []
  pub plain : IsLine text
