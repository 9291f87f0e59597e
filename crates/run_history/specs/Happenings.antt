-- What happens in the world, one thing after another: what each makes of a scene, and when it may come.
use Rattle.std.specs.Prelude.{ℕ, ◌-◌, ◌≡◌, ◌≤◌, ◌<◌, ◌^◌, nat_lt, true, false, List, [], ◌∷◌, Option, None, Some, Err, is_ok, length, slice_get, slice_set}
use Rattle.cl_base.specs.Sets.{has}
use Rattle.cl_base.specs.declared.method.Outcome as method
use Rattle.cl_base.specs.declared.packet.DropCause.TheVariants as drop
use Rattle.device_queue.specs.Queue.{begins_plainly}
use Rattle.interconnect.specs.Links as links
use Rattle.interconnect.specs.Links.{Packet, packet_of, removing, repeating, sending}
use Rattle.pgr_device.specs.Device.{Device}
use Rattle.pgr_device.specs.declared.command.PrCommand.{PrCommand}
use Rattle.pgr_device.specs.declared.command.PrCommand.TheVariants as command
use Rattle.schedule_text.specs.declared.event.Event.{Event}
use Rattle.schedule_text.specs.declared.event.Event.TheVariants as event
use Rattle.schedule_text.specs.declared.line.Line.TheVariants as line
use Rattle.seize.specs.Answers.{Answer}
use Rattle.status_report.specs.declared.device_entry.DeviceEntry.TheVariants as device
use Rattle.status_report.specs.declared.device_entry.WriteRefusal.{WriteRefusal}
use Rattle.status_report.specs.declared.entry.Entry.TheVariants as entry
use Rattle.status_report.specs.declared.packet_entry.PacketEntry.TheVariants as packet
use Rattle.status_report.specs.declared.schedule_entry.ScheduleEntry.{ScheduleEntry}
use Rattle.wire.specs.declared.message.Message.{Message}
use Rattle.wire.specs.Reads.{whole_of}
use Rattle.history.specs.Letters.{arrived}
use Rattle.history.specs.Moment.{Moment, Said, Part}
use Rattle.history.specs.Order.{under_way}
use Rattle.node_model.specs.declared.cluster.Cluster.{Cluster}
use Rattle.node_model.specs.declared.input.Input.{Input}
use Rattle.node_model.specs.declared.input.Input.TheVariants as input
use Rattle.node_model.specs.declared.node.Node.{Node}
use Rattle.node_model.specs.declared.node.UpNode.{UpNode}
use Rattle.node_model.specs.declared.output.Output.{Output}
use Rattle.node_model.specs.Devices.{may_write_as}
use Rattle.node_model.specs.Seats.{record_of}
use Rattle.node_model.specs.Steps.{stepped}
use Rattle.world_model.specs.Devices.{Executed, due_at, executed}
use Rattle.world_model.specs.Lines.{left_by}
use Rattle.refinement.specs.Guards.{IsDown, OfUp}
use Rattle.refinement.specs.Runs.{IsAmong, Nodes, moved}
use Rattle.refinement.specs.Runs.Move.{Arms, Takes as Takes_in}
use Rattle.refinement.specs.Steps.{disk_rules}
use Rattle.run_history.specs.Bringing.{IsBrought, IsDelivery, IsLoss, IsRepeat}
use Rattle.run_history.specs.Scenes.{Scene, adding, dropped_so, fault_in, passing, telling, with_fault, with_links}

pub data Happening : Type 0 where
  Speaks : (e : Event) → Happening  -- a line of the schedule comes; it arms the fault or the stop that it names
  Begins : (e : Event) → Happening  -- a part of a round begins
  Notes : (e : ScheduleEntry) → Happening  -- it is told what a line comes to by itself
  Takes : (n now : ℕ) (ends : method.Outcome) (i : Input) → Happening  -- something comes to a node: no packet, and no answer of a device
  Arrives : (number : ℕ) (x : Packet) (m : Message) (now : ℕ) (ends : method.Outcome) → Happening  -- a packet comes to a node that is up, which takes its message
  Strays : (number : ℕ) (x : Packet) → Happening  -- a packet comes that holds no message
  Misses : (number : ℕ) (x : Packet) → Happening  -- a packet comes to a node that is down
  Loses : (number : ℕ) (x : Packet) → Happening
  Repeats : (number : ℕ) (x : Packet) → Happening
  Commands : (n d : ℕ) (k : PrCommand) (now : ℕ) (ends : method.Outcome) → Happening  -- a node's due command is carried out, and it takes the answer
  Writes : (n d value now : ℕ) (ends : method.Outcome) → Happening  -- a node writes to a device, and takes the answer
  Refuses : (n d value : ℕ) (cause : WriteRefusal) → Happening  -- a node refuses to write

-- ---- what each makes of a scene

abbrev pub given_by : Cluster → ℕ → ℕ → method.Outcome → Input → Nodes → List Output
given_by c n now ends i v = (stepped disk_rules c n now ends (v.node n) (v.disk n) i).given

-- a node takes what comes to it, and what it gives is told and sent
abbrev pub taking : Cluster → ℕ → ℕ → method.Outcome → Input → Scene → Scene
taking c n now ends i s = passing n (given_by c n now ends i s.nodes) (record s { nodes = moved c s.nodes (Takes_in n now ends i) })

-- A command is done at a device, unless an armed fault says that it is not; its answer comes unless one is armed.

pub record Commanded : Type 0 where
  pub scene : Scene
  pub answer : Answer

abbrev pub commanded_to : Scene → ℕ → ℕ → Executed → Commanded
commanded_to s n d e = record { scene = record (with_fault s n d None) { devices = slice_set s.devices (d - 1) e.device }; answer = e.answer }

abbrev pub commanded_at : Scene → ℕ → ℕ → Option Device → PrCommand → Commanded
commanded_at s n d None k = record { scene = s; answer = Err (record {}) }
commanded_at s n d (Some device) k = commanded_to s n d (executed device n k (fault_in s n d))

abbrev pub commanded : Scene → ℕ → ℕ → PrCommand → Commanded
commanded s n d k = commanded_at s n d (slice_get s.devices (d - 1)) k

abbrev pub answering : Cluster → ℕ → ℕ → method.Outcome → Commanded → Scene
answering c n now ends o = taking c n now ends (input.Answered o.answer) o.scene

abbrev pub wrote : Cluster → ℕ → ℕ → ℕ → ℕ → method.Outcome → Commanded → Scene
wrote c n d value now ends o = taking c n now ends (input.Wrote d value o.answer) o.scene

-- the fault, or the stop in a node's disk, that a line names
abbrev pub armed_by : Cluster → Event → Scene → Scene
armed_by c (event.Fault n d done) s = with_fault s n d (Some done)
armed_by c (event.CrashAt n calls choice) s = record s { nodes = moved c s.nodes (Arms n calls (left_by choice)) }
armed_by c e s = s

-- a packet is no longer in flight
abbrev pub removed : Scene → ℕ → Scene
removed s number = with_links s (removing s.links number)

-- a copy takes the next number
abbrev pub copying : ℕ → links.Outcome → Scene → Scene
copying number o s = dropped_so o.sent.dropped (telling (entry.Packet (packet.Repeated number s.links.next)) (with_links s o.after))

abbrev pub happened : Cluster → Scene → Happening → Scene
happened c s (Speaks e) = armed_by c e (adding (Said (line.Event e)) s)
happened c s (Begins e) = adding (Part e) s
happened c s (Notes e) = telling (entry.Schedule e) s
happened c s (Takes n now ends i) = taking c n now ends i s
happened c s (Arrives number x m now ends) = taking c x.to now ends (input.Packet x.from m) (telling (entry.Packet (packet.Delivered number x.from x.to)) (removed s number))
happened c s (Strays number x) = telling (entry.Packet (packet.Delivered number x.from x.to)) (removed s number)
happened c s (Misses number x) = telling (entry.Packet (packet.Dropped number drop.Down)) (removed s number)
happened c s (Loses number x) = telling (entry.Packet (packet.Lost number)) (removed s number)
happened c s (Repeats number x) = copying number (sending s.links x.from x.to x.bytes) s
happened c s (Commands n d k now ends) = answering c n now ends (commanded s n d k)
happened c s (Writes n d value now ends) = wrote c n d value now ends (commanded s n d (command.Write value))
happened c s (Refuses n d value cause) = telling (entry.Device (device.Refused n d value cause)) s

abbrev pub all_happened : Cluster → Scene → List Happening → Scene
all_happened c s [] = s
all_happened c s (h ∷ hs) = all_happened c (happened c s h) hs

-- ---- when each may come

abbrev pub IsNode : ℕ → Type 0
IsNode n = (1 ≤ n) × (n ≤ 32)

abbrev pub IsUp : Node → Type 0
IsUp node = OfUp (λ x. Unit {0}) node

-- neither a packet nor an answer of a device
abbrev pub IsPlain : Input → Type 0
IsPlain (input.Packet from m) = ⊥
IsPlain (input.Answered a) = ⊥
IsPlain (input.Wrote d value a) = ⊥
IsPlain _ = Unit {0}

-- where a plain seizing is about to register, the record calls the key not validated
abbrev pub IsReadied : UpNode → Type 0
IsReadied x = (d : ℕ) → begins_plainly x.tasks ≡ Some d → has (record_of x).valid d ≡ false

-- a fault is of a node and a device of the cluster
abbrev pub IsPlaced : Cluster → Scene → Event → Type 0
IsPlaced c s (event.Fault n d done) = (1 ≤ n) × (n ≤ c.header.nodes) × (1 ≤ d) × (d ≤ length s.devices)
IsPlaced c s e = Unit {0}

-- no packet came in the event under way: a line or a part of a round came since the last one did
abbrev pub IsApart : Scene → Type 0
IsApart s = arrived s.moments ≡ None

-- a command stands in its line, and a probe in its own, which were said last
abbrev pub IsSaid : List Moment → ℕ → Input → Type 0
IsSaid moments n (input.Commanded words) = slice_get moments 0 ≡ Some (Said (line.Event (event.Command n words)))
IsSaid moments n (input.Reported resource good) = slice_get moments 0 ≡ Some (Said (line.Event (event.Probe n resource good)))
IsSaid moments n _ = Unit {0}

-- the event under way is this one
abbrev pub IsUnder : Scene → Event → Type 0
IsUnder s e = under_way s.moments ≡ Some e

abbrev pub MayHappen : Cluster → Scene → Happening → Type 0
MayHappen c s (Speaks e) = IsPlaced c s e
MayHappen c s (Takes n now ends i) = IsNode n × IsPlain i × (now < 2 ^ 64) × IsApart s × IsSaid s.moments n i
    × IsBrought (under_way s.moments) n i
MayHappen c s (Arrives number x m now ends) =
    (packet_of s.links.packets number ≡ Some x) × (whole_of x.bytes ≡ Some m) × IsUp (s.nodes.node x.to) × IsNode x.to × IsAmong x.from m.body s.nodes.sent × (now < 2 ^ 64)
    × IsDelivery s.links.packets number (under_way s.moments)
MayHappen c s (Strays number x) =
    (packet_of s.links.packets number ≡ Some x) × (whole_of x.bytes ≡ None) × IsUp (s.nodes.node x.to) × IsDelivery s.links.packets number (under_way s.moments)
MayHappen c s (Misses number x) = (packet_of s.links.packets number ≡ Some x) × IsDown (s.nodes.node x.to) × IsDelivery s.links.packets number (under_way s.moments)
MayHappen c s (Loses number x) = (packet_of s.links.packets number ≡ Some x) × IsLoss s.links.packets number (under_way s.moments)
MayHappen c s (Repeats number x) = (packet_of s.links.packets number ≡ Some x) × (nat_lt s.links.next (2 ^ 63) ≡ true) × IsRepeat s.links.packets number (under_way s.moments)
MayHappen c s (Commands n d k now ends) = IsNode n × OfUp IsReadied (s.nodes.node n) × (due_at (Some (s.nodes.node n)) ≡ Some (d, k)) × (now < 2 ^ 64) × IsApart s × IsUnder s (event.Disk n)
MayHappen c s (Writes n d value now ends) = IsNode n × OfUp (λ x. is_ok (may_write_as c n d x.seat) ≡ true) (s.nodes.node n) × (now < 2 ^ 64) × IsApart s × IsUnder s (event.Write n d value)
MayHappen c s (Refuses n d value cause) = IsNode n × OfUp (λ x. may_write_as c n d x.seat ≡ Err cause) (s.nodes.node n) × IsUnder s (event.Write n d value)
MayHappen c s _ = Unit {0}

abbrev pub MayAllHappen : Cluster → Scene → List Happening → Type 0
MayAllHappen c s [] = Unit {0}
MayAllHappen c s (h ∷ hs) = MayHappen c s h × MayAllHappen c (happened c s h) hs

-- ---- what is kept by each, and holds at first, holds always

abbrev pub IsKept : Cluster → (Scene → Type 0) → Type 0
IsKept c P = (s : Scene) (h : Happening) → MayHappen c s h → P s → P (happened c s h)
