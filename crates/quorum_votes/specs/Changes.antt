-- A change of one vote, or the reason why there is none.
use Rattle.std.specs.Prelude.{◌≡◌, ◌≢◌, IsSome, ℕ, ◌-◌, ◌==◌, ◌≤◌, Bool, true, false, Option, None, Some, Result, Ok, Err, slice_set, if◌then◌else◌}
use Rattle.quorum_votes.specs.declared.state.NodeState.{NodeState}
use Rattle.quorum_votes.specs.declared.state.NodeState.TheVariants.{Unconfigured, Maintenance, Voting}
use Rattle.quorum_votes.specs.declared.state.DevState.{DevState}
use Rattle.quorum_votes.specs.declared.state.DevState.TheVariants.{Absent, Enabled, Disabled}
use Rattle.quorum_votes.specs.declared.state.VoteDevice.{VoteDevice}
use Rattle.quorum_votes.specs.declared.change.VoteChange.{VoteChange}
use Rattle.quorum_votes.specs.declared.change.VoteChange.TheVariants.{NodeVote, Device, Configure, Remove}
use Rattle.quorum_votes.specs.declared.change.VoteError.{VoteError}
use Rattle.quorum_votes.specs.declared.change.VoteError.TheVariants.{SameValue, Unknown}
use Rattle.quorum_votes.specs.Tables.{VoteTable}
use Rattle.quorum_votes.specs.Votes.{node_at, device_at, vote_in, vote_of, is_configured, state_of}

-- a configured node with this vote
abbrev pub state_with : ℕ → NodeState
state_with vote = if vote == 1 then Voting else Maintenance

-- the same votes, but that node n counts as this
abbrev pub with_node : VoteTable → ℕ → NodeState → VoteTable
with_node v n state = record v { nodes = slice_set v.nodes (n - 1) state }

-- the same votes, but that device d is this one
abbrev pub with_device : VoteTable → ℕ → VoteDevice → VoteTable
with_device v d device = record v { devices = slice_set v.devices (d - 1) (Some device) }

abbrev pub same_state : DevState → DevState → Bool
same_state Absent Absent = true
same_state Enabled Enabled = true
same_state Disabled Disabled = true
same_state _ _ = false

abbrev pub with_vote : VoteTable → ℕ → ℕ → NodeState → Result VoteTable VoteError
with_vote v n vote Unconfigured = Err Unknown
with_vote v n vote state = if vote_in state == vote then Err SameValue else Ok (with_node v n (state_with vote))

abbrev pub with_state : VoteTable → ℕ → DevState → Option VoteDevice → Result VoteTable VoteError
with_state v d state None = Err Unknown
with_state v d state (Some device) = if same_state device.state state then Err SameValue else Ok (with_device v d (record device { state = state }))

-- node n is configured, with vote 0, unless it is so already
abbrev pub with_configured : VoteTable → ℕ → NodeState → Result VoteTable VoteError
with_configured v n Unconfigured = Ok (with_node v n Maintenance)
with_configured v n state = Err SameValue

-- a configured node is taken out, whatever its vote
abbrev pub without_node : VoteTable → ℕ → NodeState → Result VoteTable VoteError
without_node v n Unconfigured = Err Unknown
without_node v n state = Ok (with_node v n Unconfigured)

-- A node that is not configured, but for being configured, and a device that the header does not have are unknown; what
-- stands already is the same value; in every other case that node or that device is as asked, and all else stays.
abbrev pub changed : VoteTable → VoteChange → Result VoteTable VoteError
changed v (NodeVote node vote) = with_vote v node vote (node_at v node)
changed v (Device dev state) = with_state v dev state (device_at v dev)
changed v (Configure node) = with_configured v node (node_at v node)
changed v (Remove node) = without_node v node (node_at v node)

-- a vote is 0 or 1
abbrev pub IsVote : VoteChange → Type 0
IsVote (NodeVote node vote) = vote ≤ 1
IsVote (Device dev state) = Unit {0}
IsVote (Configure node) = Unit {0}
IsVote (Remove node) = Unit {0}

-- The same seen from outside: what a change alters, and what it leaves.
pub record OthersStay (old : VoteTable) (n : ℕ) (new : VoteTable) : Type 0 where
  pub other_nodes : (m : ℕ) → 1 ≤ m → m ≢ n → node_at new m ≡ node_at old m
  pub devices : new.devices ≡ old.devices

pub record ChangesVote (old : VoteTable) (n vote : ℕ) (new : VoteTable) : Type 0 where
  pub known : is_configured old n ≡ true
  pub before : vote_of old n ≢ vote
  pub stays : is_configured new n ≡ true
  pub after : vote_of new n ≡ vote
  pub others : OthersStay old n new

pub record Configures (old : VoteTable) (n : ℕ) (new : VoteTable) : Type 0 where
  pub before : is_configured old n ≡ false
  pub after : is_configured new n ≡ true
  pub vote : vote_of new n ≡ 0
  pub others : OthersStay old n new

pub record Removes (old : VoteTable) (n : ℕ) (new : VoteTable) : Type 0 where
  pub before : is_configured old n ≡ true
  pub after : is_configured new n ≡ false
  pub vote : vote_of new n ≡ 0
  pub others : OthersStay old n new

abbrev pub device_with : DevState → Option VoteDevice → Option VoteDevice
device_with state None = None
device_with state (Some device) = Some (record device { state = state })

pub record ChangesDevice (old : VoteTable) (d : ℕ) (state : DevState) (new : VoteTable) : Type 0 where
  pub known : IsSome (device_at old d)
  pub before : state_of (device_at old d) ≢ state
  pub after : device_at new d ≡ device_with state (device_at old d)
  pub other_devices : (e : ℕ) → 1 ≤ e → e ≢ d → device_at new e ≡ device_at old e
  pub nodes : new.nodes ≡ old.nodes

abbrev pub Changes : VoteTable → VoteChange → VoteTable → Type 0
Changes old (NodeVote node vote) new = ChangesVote old node vote new
Changes old (Device dev state) new = ChangesDevice old dev state new
Changes old (Configure node) new = Configures old node new
Changes old (Remove node) new = Removes old node new

-- when there is no change, and which answer says so
abbrev pub IsVoteRefused : VoteTable → ℕ → ℕ → VoteError → Type 0
IsVoteRefused old n vote Unknown = is_configured old n ≡ false
IsVoteRefused old n vote SameValue = (is_configured old n ≡ true) × (vote_of old n ≡ vote)

abbrev pub IsDeviceRefused : VoteTable → ℕ → DevState → VoteError → Type 0
IsDeviceRefused old d state Unknown = device_at old d ≡ None
IsDeviceRefused old d state SameValue = IsSome (device_at old d) × (state_of (device_at old d) ≡ state)

abbrev pub IsConfiguringRefused : VoteTable → ℕ → VoteError → Type 0
IsConfiguringRefused old n Unknown = ⊥
IsConfiguringRefused old n SameValue = is_configured old n ≡ true

abbrev pub IsRemovalRefused : VoteTable → ℕ → VoteError → Type 0
IsRemovalRefused old n Unknown = is_configured old n ≡ false
IsRemovalRefused old n SameValue = ⊥

abbrev pub IsRefused : VoteTable → VoteChange → VoteError → Type 0
IsRefused old (NodeVote node vote) e = IsVoteRefused old node vote e
IsRefused old (Device dev state) e = IsDeviceRefused old dev state e
IsRefused old (Configure node) e = IsConfiguringRefused old node e
IsRefused old (Remove node) e = IsRemovalRefused old node e
