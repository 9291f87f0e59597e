-- The world before the first line.
use Rattle.std.specs.Prelude.{ℕ, zero, suc, ◌+◌, ◌*◌, List, [], ◌∷◌, ◌++◌, None, length, map, replicate}
use Rattle.agents.specs.Calls.{AgentState}
use Rattle.cl_base.specs.Numbers.{first_numbers}
use Rattle.cl_base.specs.Sets.{set_with}
use Rattle.cl_base.specs.declared.header.DeviceKind.{DeviceKind}
use Rattle.cl_base.specs.declared.header.DeviceKind.TheVariants.{Data, Quorum, Server}
use Rattle.cl_base.specs.declared.header.Header.{Header}
use Rattle.cl_base.specs.declared.header.HeaderDevice.{HeaderDevice}
use Rattle.cmm_attempt.specs.declared.attached.AttachedDevice.{AttachedDevice}
use Rattle.interconnect.specs.Links.{Links}
use Rattle.node_model.specs.declared.cluster.Cluster.{Cluster}
use Rattle.node_model.specs.declared.node.Node.TheVariants.{Down}
use Rattle.node_model.specs.Clusters.{first_valid_of}
use Rattle.pgr_device.specs.Device.{Device, fresh, with_keys}
use Rattle.quorum_votes.specs.Votes.{first_of}
use Rattle.record_disk.specs.Disks.{DiskState, empty_disk}
use Rattle.world_model.specs.Worlds.{WorldState}

-- the set, and the number if it is that of a quorum device
abbrev pub with_quorum : DeviceKind → ℕ → ℕ → ℕ
with_quorum Data number set = set
with_quorum Quorum number set = set_with set number
with_quorum Server number set = set

-- the set, and the quorum devices among these, whose numbers begin with this
abbrev pub quorum_from : ℕ → List HeaderDevice → ℕ → ℕ
quorum_from number [] set = set
quorum_from number (d ∷ devices) set = quorum_from (number + 1) devices (with_quorum d.kind number set)

abbrev pub quorum_devices : List HeaderDevice → ℕ
quorum_devices devices = quorum_from 1 devices 0

-- which nodes have a path to each of these devices, whose numbers begin with this
abbrev pub attached_from : ℕ → List HeaderDevice → List AttachedDevice
attached_from number [] = []
attached_from number (d ∷ devices) = record { device = number; nodes = d.attached } ∷ attached_from (number + 1) devices

-- what the nodes know of the cluster
abbrev pub first_cluster : Header → Cluster
first_cluster h = record {
  header = h;
  id = h.cluster;
  nodes = first_numbers h.nodes;
  configured = h.configured;
  devices = first_numbers (length h.devices);
  attached = attached_from 1 h.devices;
  first_valid = quorum_devices h.devices;
  votes = first_of h;
}

-- the configured nodes with a path to a quorum device are registered there, each by its key
abbrev pub first_device_of : DeviceKind → ℕ → ℕ → ℕ → Device
first_device_of Data attached configured cluster = fresh attached
first_device_of Quorum attached configured cluster = with_keys attached configured cluster
first_device_of Server attached configured cluster = fresh attached

abbrev pub first_device : Header → HeaderDevice → Device
first_device h d = first_device_of d.kind d.attached h.configured h.cluster

-- links without a packet, over so many cells
abbrev pub first_links : ℕ → Links
first_links cells = record { packets = []; next = 1; cells = cells }

-- the disks of the nodes 1 to k
abbrev pub first_disks : Cluster → ℕ → List DiskState
first_disks c zero = []
first_disks c (suc k) = first_disks c k ++ empty_disk (first_valid_of c (suc k)) ∷ []

-- all nodes are down, with empty disks; no fault is armed, and nothing was sent
unfoldable pub first_world : Header → ℕ → List AgentState → WorldState
first_world h cells agents = record {
  cluster = first_cluster h;
  nodes = replicate h.nodes Down;
  disks = first_disks (first_cluster h) h.nodes;
  devices = map (first_device h) h.devices;
  faults = replicate (h.nodes * length h.devices) None;
  links = first_links cells;
  clock = 0;
  script = [];
  agents = agents;
}
