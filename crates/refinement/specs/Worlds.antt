-- The simulated world as runs of all nodes: its nodes and disks are theirs, and its packets are of what they sent.
use Rattle.std.specs.Prelude.{ℕ, ◌-◌, ◌≡◌, ◌≤◌, ◌<◌, ◌^◌, List, [], ◌∷◌, Ok, Some, length, slice_get}
use Rattle.std.specs.List.{AllByRecursion}
use Rattle.interconnect.specs.Links.{Packet}
use Rattle.record_disk.specs.Disks.{DiskState}
use Rattle.wire.specs.declared.message.Message.{Message}
use Rattle.wire.specs.Reads.{whole_of}
use Rattle.wire.specs.Spelling.{Fits, spelling}
use Rattle.node_model.specs.declared.cluster.Cluster.{Cluster}
use Rattle.node_model.specs.declared.input.Input.{Input}
use Rattle.node_model.specs.declared.node.Node.{Node}
use Rattle.node_model.specs.declared.output.Output.{Output}
use Rattle.node_model.specs.declared.output.Output.TheVariants.{Tells, Sends}
use Rattle.node_model.specs.Steps.{stepped}
use Rattle.refinement.specs.node_widths.Widths.{AnswerFits}
use Rattle.agents.specs.Calls.{AgentState}
use Rattle.cl_base.specs.declared.header.Header.{Header}
use Rattle.cl_base.specs.declared.method.Outcome.{Outcome}
use Rattle.schedule_text.specs.declared.event.Event.{Event}
use Rattle.schedule_text.specs.declared.event.Event.TheVariants as event
use Rattle.world_model.specs.First.{first_cluster, first_world}
use Rattle.world_model.specs.Devices.{due}
use Rattle.pgr_device.specs.Device.{Device}
use Rattle.pgr_device.specs.Kept.{IsApart}
use Rattle.pgr_device.specs.Spc.{step}
use Rattle.pgr_device.specs.declared.command.PrCommand.{PrCommand}
use Rattle.world_model.specs.Lines.{line_on}
use Rattle.world_model.specs.Worlds.{Play, WorldState, play}
use Rattle.refinement.specs.Runs.{InTime, IsAmong, IsRun, Letter, MayMove, Move, Moves, Nodes, first_nodes}
use Rattle.refinement.specs.Runs.Move.{Takes}
use Rattle.refinement.specs.Steps.{disk_rules}

-- What a node gives goes to nodes from number 1 on, and can be spelled where it has a packet's size. A longer message is not sent.
abbrev pub SpelledIfShort : Message → Type 0
SpelledIfShort m = length (spelling m) ≤ 131072 → Fits m

abbrev pub AllFit : ℕ → List Output → Type 0
AllFit n [] = Unit {0}
AllFit n (Tells e ∷ os) = AllFit n os
AllFit n (Sends to b ∷ os) = (1 ≤ to) × SpelledIfShort (record { sender = n; body = b }) × AllFit n os

-- so it is in every run whose seconds have 64 bits
abbrev pub GivesFit : Cluster → Type 0
GivesFit c = (moves : List Move) (v : Nodes) (n now : ℕ) (ends : Outcome) (i : Input) → Moves c (first_nodes c) moves v → AllByRecursion InTime moves → now < 2 ^ 64
    → MayMove v (Takes n now ends i)
    → AllFit n (stepped disk_rules c n now ends (v.node n) (v.disk n) i).given

-- a packet holds a message that its sender sent, if it holds one
abbrev pub PacketSent : List Letter → Packet → Type 0
PacketSent sent x = (1 ≤ x.to) × ((m : Message) → whole_of x.bytes ≡ Some m → IsAmong x.from m.body sent)

-- a device has numbers of 64 bits, and at most one key of each node
pub record DeviceFits (d : Device) : Type 0 where
  pub word : d.word < 2 ^ 64
  pub few : length d.registrations ≤ 32
  pub keys : AllByRecursion (λ r. r.key < 2 ^ 64) d.registrations
  pub apart : IsApart d.paths d.registrations

pub record Shows (c : Cluster) (w : WorldState) (v : Nodes) : Type 0 where
  pub cluster : w.cluster ≡ c
  pub few : length w.nodes ≤ 32
  pub node : (n : ℕ) (node : Node) → 1 ≤ n → slice_get w.nodes (n - 1) ≡ Some node → v.node n ≡ node
  pub disk : (n : ℕ) (disk : DiskState) → 1 ≤ n → slice_get w.disks (n - 1) ≡ Some disk → v.disk n ≡ disk
  pub device : (d : ℕ) (device : Device) → slice_get w.devices d ≡ Some device → DeviceFits device
  pub packets : AllByRecursion (PacketSent v.sent) w.links.packets
  pub clock : w.clock < 2 ^ 64

-- the world is that of a run of all nodes
pub record Played (c : Cluster) (w : WorldState) : Type 0 where
  pub moves : List Move
  pub nodes : Nodes
  pub run : Moves c (first_nodes c) moves nodes
  pub in_time : AllByRecursion InTime moves
  pub shows : Shows c w nodes

-- The command keeps a device so, and its answer has numbers of 64 bits.
abbrev pub Keeps : Device → ℕ → PrCommand → Type 0
Keeps device n k = DeviceFits (step device n k).after × AnswerFits (Ok (step device n k).answer)

-- so does each that is due in a run
abbrev pub DevicesFit : Cluster → Type 0
DevicesFit c = (w : WorldState) (n d : ℕ) (k : PrCommand) (device : Device) → Played c w → 1 ≤ n → due w n ≡ Some (d, k) → DeviceFits device → Keeps device n k

-- A line names nodes from number 1 on, and seconds of 64 bits.
abbrev pub IsNamed : Event → Type 0
IsNamed (event.Boot n) = 1 ≤ n
IsNamed (event.Crash n) = 1 ≤ n
IsNamed (event.CrashAt n calls choice) = 1 ≤ n
IsNamed (event.Tick n) = 1 ≤ n
IsNamed (event.Disk n) = 1 ≤ n
IsNamed (event.Write n d value) = 1 ≤ n
IsNamed (event.Command n words) = 1 ≤ n
IsNamed (event.Probe n r good) = 1 ≤ n
IsNamed (event.Client n address client port) = 1 ≤ n
IsNamed (event.Clock second) = second < 2 ^ 64
IsNamed _ = Unit {0}

abbrev pub lines_on : List Event → Play → Play
lines_on [] p = p
lines_on (e ∷ events) p = lines_on events (line_on e p)

-- the world is that of a run of all nodes, and this is one of the machine of memberships
pub record IsWorldRun (c : Cluster) (w : WorldState) : Type 0 where
  pub nodes : Nodes
  pub shows : Shows c w nodes
  pub is_run : IsRun c nodes

-- Each run of the simulated world is a run of the machine of memberships.
abbrev pub WorldRunsAreOne : Type 0
WorldRunsAreOne = (h : Header) (cells : ℕ) (agents : List AgentState) (text : List ℕ) (events : List Event) → h.nodes ≤ 32 → length h.devices ≤ 16 → h.cluster < 2 ^ 32 → AllByRecursion IsNamed events
    → IsWorldRun (first_cluster h) (lines_on events (play (first_world h cells agents) text)).world
