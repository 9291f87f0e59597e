-- What each node and each device counts for, and what a membership holds.
use Rattle.std.specs.Prelude.{ℕ, zero, suc, ◌+◌, ◌-◌, ◌/◌, ◌++◌, Bool, true, false, List, [], ◌∷◌, Option, None, Some, map, replicate, length, slice_index_or, if◌then◌else◌}
use Rattle.cl_base.specs.Limits.{most_nodes}
use Rattle.cl_base.specs.Sets.{has}
use Rattle.cl_base.specs.declared.header.DeviceKind.{DeviceKind}
use Rattle.cl_base.specs.declared.header.DeviceKind.TheVariants.{Data, Quorum, Server}
use Rattle.cl_base.specs.declared.header.Header.{Header}
use Rattle.cl_base.specs.declared.header.HeaderDevice.{HeaderDevice}
use Rattle.quorum_votes.specs.declared.state.NodeState.{NodeState}
use Rattle.quorum_votes.specs.declared.state.NodeState.TheVariants.{Unconfigured, Maintenance, Voting}
use Rattle.quorum_votes.specs.declared.state.DevState.{DevState}
use Rattle.quorum_votes.specs.declared.state.DevState.TheVariants.{Absent, Enabled, Disabled}
use Rattle.quorum_votes.specs.declared.state.VoteDevice.{VoteDevice}
use Rattle.quorum_votes.specs.Sums.{sum_to}
use Rattle.quorum_votes.specs.Tables.{VoteTable}

-- what node n counts for
abbrev pub node_at : VoteTable → ℕ → NodeState
node_at v n = slice_index_or v.nodes (n - 1) Unconfigured

-- device d, if the header has it
abbrev pub device_at : VoteTable → ℕ → Option VoteDevice
device_at v d = slice_index_or v.devices (d - 1) None

-- a configured node has vote 1, and 0 in maintenance; a node that is not configured has vote 0
abbrev pub vote_in : NodeState → ℕ
vote_in Voting = 1
vote_in Maintenance = 0
vote_in Unconfigured = 0

abbrev pub vote_of : VoteTable → ℕ → ℕ
vote_of v n = vote_in (node_at v n)

abbrev pub is_configured_in : NodeState → Bool
is_configured_in Unconfigured = false
is_configured_in Maintenance = true
is_configured_in Voting = true

abbrev pub is_configured : VoteTable → ℕ → Bool
is_configured v n = is_configured_in (node_at v n)

-- the vote of node n where it is in the set, else 0
abbrev pub node_share : VoteTable → ℕ → ℕ → ℕ
node_share v nodes n = if has nodes n then vote_of v n else 0

-- the votes of the nodes in the set
abbrev pub node_votes_of : VoteTable → ℕ → ℕ
node_votes_of v nodes = sum_to (node_share v nodes) 32

-- an enabled quorum device has N - 1 votes, N being its attached nodes with vote 1, and 0 where N is 0
abbrev pub device_votes_in : VoteTable → DevState → ℕ → ℕ
device_votes_in v Enabled attached = node_votes_of v attached - 1
device_votes_in v Disabled attached = 0
device_votes_in v Absent attached = 0

abbrev pub votes_of_device : VoteTable → Option VoteDevice → ℕ
votes_of_device v None = 0
votes_of_device v (Some device) = device_votes_in v device.state device.attached

abbrev pub device_votes_of : VoteTable → ℕ → ℕ
device_votes_of v d = votes_of_device v (device_at v d)

-- the state of a device; one that the header does not have is no quorum device
abbrev pub state_of : Option VoteDevice → DevState
state_of None = Absent
state_of (Some device) = device.state

-- the votes of device d where it is in the set, else 0
abbrev pub device_share : VoteTable → ℕ → ℕ → ℕ
device_share v devices d = if has devices d then device_votes_of v d else 0

-- all votes of nodes and devices
abbrev pub total_of : VoteTable → ℕ
total_of v = sum_to (vote_of v) 32 + sum_to (device_votes_of v) 16

-- the votes of the members and of the devices held
abbrev pub held_of : VoteTable → ℕ → ℕ → ℕ
held_of v members devices = node_votes_of v members + sum_to (device_share v devices) 16

-- how many votes a membership needs: more than half of all
abbrev pub needed_of : VoteTable → ℕ
needed_of v = total_of v / 2 + 1

-- At first the nodes that the header configures have vote 1 and the others are not configured; of its devices the quorum
-- devices and the servers are enabled, and the data devices absent.
abbrev pub first_state : DeviceKind → DevState
first_state Data = Absent
first_state Quorum = Enabled
first_state Server = Enabled

abbrev pub first_device : HeaderDevice → Option VoteDevice
first_device d = Some (record { state = first_state d.kind; attached = d.attached })

abbrev pub first_node : ℕ → ℕ → NodeState
first_node configured n = if has configured n then Voting else Unconfigured

-- the nodes 1 to k
abbrev pub first_nodes : ℕ → ℕ → List NodeState
first_nodes configured zero = []
first_nodes configured (suc k) = first_nodes configured k ++ first_node configured (suc k) ∷ []

abbrev pub first_devices : List HeaderDevice → List (Option VoteDevice)
first_devices devices = map first_device devices ++ replicate (16 - length devices) None

abbrev pub first_of : Header → VoteTable
first_of h = record { nodes = first_nodes h.configured most_nodes; devices = first_devices h.devices }
