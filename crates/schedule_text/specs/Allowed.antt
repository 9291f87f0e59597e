-- What holds of each header and of each line that is read.
use Rattle.std.specs.Prelude.{◌≡◌, ◌≢◌, ℕ, ◌+◌, ◌<◌, ◌≤◌, ◌^◌, true, List, length, All}
use Rattle.cl_base.specs.Limits.{most_nodes_at_first, most_devices}
use Rattle.cl_base.specs.Names.{IsName}
use Rattle.cl_base.specs.Numbers.{first_numbers}
use Rattle.cl_base.specs.Sets.{has}
use Rattle.cl_base.specs.declared.header.Header.{Header}
use Rattle.cl_base.specs.declared.header.HeaderDevice.{HeaderDevice}
use Rattle.cl_base.specs.declared.header.Version.{Version}
use Rattle.cl_base.specs.declared.header.Version.TheVariants.{One, Two}
use Rattle.pgr_device.specs.Allowed.{IsAllowed}
use Rattle.schedule_text.specs.declared.event.Event.{Event}
use Rattle.schedule_text.specs.declared.event.Event.TheVariants as event
use Rattle.schedule_text.specs.declared.header.Head.{Head}
use Rattle.schedule_text.specs.declared.header.Head.TheVariants.{Pr, Cluster}
use Rattle.schedule_text.specs.declared.header.HeaderState.{HeaderState}
use Rattle.schedule_text.specs.declared.header.HeaderState.TheVariants as state
use Rattle.schedule_text.specs.declared.line.ClusterLine.{ClusterLine}
use Rattle.schedule_text.specs.declared.line.ClusterLine.TheVariants as cluster
use Rattle.schedule_text.specs.declared.line.Line.{Line}
use Rattle.schedule_text.specs.declared.line.Line.TheVariants as line
use Rattle.schedule_text.specs.declared.line.PrLine.{PrLine}
use Rattle.schedule_text.specs.declared.line.PrLine.TheVariants as pr
use Rattle.schedule_text.specs.declared.line.SoFar.{SoFar}
use Rattle.schedule_text.specs.Versions.{most_nodes_of}

-- a node of the header
abbrev pub IsNode : Header → ℕ → Type 0
IsNode h n = (1 ≤ n) × (n ≤ most_nodes_of h.version) × (n ≤ h.nodes)

-- a device of the header
abbrev pub IsDevice : Header → ℕ → Type 0
IsDevice h d = (1 ≤ d) × (d ≤ most_devices) × (d ≤ length h.devices)

-- a set of nodes with numbers up to this one
abbrev pub AreWithin : ℕ → ℕ → Type 0
AreWithin most set = (n : ℕ) → has set n ≡ true → (1 ≤ n) × (n ≤ most)

-- and with one node at least
abbrev pub AreNodes : ℕ → ℕ → Type 0
AreNodes most set = (set ≢ 0) × AreWithin most set

abbrev pub IsAttached : ℕ → HeaderDevice → Type 0
IsAttached nodes d = AreNodes nodes d.attached

-- under version 1 all nodes are configured
abbrev pub AreConfigured : Version → ℕ → ℕ → Type 0
AreConfigured One nodes set = set ≡ first_numbers nodes
AreConfigured Two nodes set = AreNodes nodes set

-- the header of a cluster schedule
pub record IsHeader (h : Header) : Type 0 where
  pub cluster_low : 1 ≤ h.cluster
  pub cluster_high : h.cluster < 2 ^ 32
  pub nodes_low : 1 ≤ h.nodes
  pub nodes_high : h.nodes ≤ most_nodes_of h.version
  pub configured : AreConfigured h.version h.nodes h.configured
  pub devices : length h.devices ≤ most_devices
  pub attached : All (IsAttached h.nodes) h.devices

-- the senders of a reservation schedule are numbered from 1 to 16
abbrev pub IsAllowedHead : Head → Type 0
IsAllowedHead (Pr senders) = AreNodes most_nodes_at_first senders
IsAllowedHead (Cluster h) = IsHeader h

abbrev pub IsAllowedState : HeaderState → Type 0
IsAllowedState state.Opening = Unit {0}
IsAllowedState state.Senders = Unit {0}
IsAllowedState (state.Complete senders) = AreNodes most_nodes_at_first senders
IsAllowedState (state.Cluster version) = Unit {0}
IsAllowedState (state.Nodes version id) = (1 ≤ id) × (id < 2 ^ 32)
IsAllowedState (state.Configured id nodes) = (1 ≤ id) × (id < 2 ^ 32) × (1 ≤ nodes) × (nodes ≤ most_nodes_of Two)
IsAllowedState (state.Devices h) = IsHeader h

-- the words of a command: not empty, and no newline among them
abbrev pub AreWords : List ℕ → Type 0
AreWords bytes = (1 ≤ length bytes) × All (λ b. b ≢ 10) bytes

abbrev pub IsAllowedEvent : Header → SoFar → Event → Type 0
IsAllowedEvent h s (event.Boot node) = IsNode h node
IsAllowedEvent h s (event.Crash node) = IsNode h node
IsAllowedEvent h s (event.CrashAt node calls choice) = IsNode h node × (1 ≤ calls) × (calls ≤ 1000)
IsAllowedEvent h s (event.Tick node) = IsNode h node
IsAllowedEvent h s (event.Deliver number) = Unit {0}
IsAllowedEvent h s (event.Lose number) = Unit {0}
IsAllowedEvent h s (event.Repeat number) = Unit {0}
IsAllowedEvent h s (event.Next from to) = IsNode h from × IsNode h to
IsAllowedEvent h s (event.Drop from to) = IsNode h from × IsNode h to
IsAllowedEvent h s (event.Again from to) = IsNode h from × IsNode h to
IsAllowedEvent h s (event.Disk node) = IsNode h node
IsAllowedEvent h s (event.Fault node device done) = IsNode h node × IsDevice h device
IsAllowedEvent h s (event.Write node device value) = IsNode h node × IsDevice h device
IsAllowedEvent h s (event.Command node words) = IsNode h node × AreWords words
IsAllowedEvent h s (event.Outcome node resource method outcome) = IsNode h node × IsName resource
IsAllowedEvent h s (event.Probe node resource good) = IsNode h node × IsName resource
IsAllowedEvent h s (event.Clock second) = s.clock ≤ second
IsAllowedEvent h s (event.Rounds count nodes) = (1 ≤ count) × (count ≤ 100) × (s.rounds + count ≤ 100000) × AreNodes h.nodes nodes
IsAllowedEvent h s (event.Client node address client port) = (h.version ≡ Two) × IsNode h node × IsName address × (client < 2 ^ 32) × (port < 2 ^ 16)

-- a line of a reservation schedule has a command that a device may be given, of a sender from 1 to 16,
abbrev pub IsAllowedPrLine : PrLine → Type 0
IsAllowedPrLine pr.Blank = Unit {0}
IsAllowedPrLine pr.End = Unit {0}
IsAllowedPrLine pr.Power = Unit {0}
IsAllowedPrLine (pr.Command sender command) = (1 ≤ sender) × (sender ≤ most_nodes_at_first) × IsAllowed command

-- and one of a cluster schedule an event of its header
abbrev pub IsAllowedClusterLine : Header → SoFar → ClusterLine → Type 0
IsAllowedClusterLine h s cluster.Blank = Unit {0}
IsAllowedClusterLine h s cluster.End = Unit {0}
IsAllowedClusterLine h s (cluster.Event event) = IsAllowedEvent h s event

abbrev pub IsAllowedLine : Head → SoFar → Line → Type 0
IsAllowedLine head s line.Blank = Unit {0}
IsAllowedLine head s line.End = Unit {0}
IsAllowedLine (Pr senders) s line.Power = Unit {0}
IsAllowedLine (Pr senders) s (line.Command sender command) = IsAllowedPrLine (pr.Command sender command)
IsAllowedLine (Pr senders) s (line.Event event) = ⊥
IsAllowedLine (Cluster h) s line.Power = ⊥
IsAllowedLine (Cluster h) s (line.Command sender command) = ⊥
IsAllowedLine (Cluster h) s (line.Event event) = IsAllowedEvent h s event
