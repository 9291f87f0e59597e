-- A node's states, and what each transition makes of them.
use Rattle.std.specs.Prelude.{ℕ, ◌≡◌, ◌≢◌, ◌≤◌, ◌<◌, ◌^◌, ◌%◌, ◌==◌, ◌&&◌, ◌||◌, ◌⊎◌, Bool, if◌then◌else◌, All, List, [], ◌∷◌}
use Rattle.std.specs.List.{list_any}
use Rattle.cl_base.specs.Sets.{has, set_with, set_without}
use Rattle.cl_base.specs.Keys.{key_of}
use Rattle.cl_base.specs.Limits.{most_nodes}
use Rattle.cl_base.specs.declared.panic.Panic.{Panic}
use Rattle.ccr_commit.specs.Entries.{EntryList, all_committed}
use Rattle.wire.specs.declared.lists.Reading.{Reading}
use Rattle.wire.specs.declared.message.Install.{Install}
use Rattle.cmm_member.specs.Records.{NodeRecord}

-- a node that is down: its number, and the devices that are valid to it before its first record
pub record DownState : Type 0 where
  pub me : ℕ
  pub first_valid : ℕ

-- a running node
pub record NodeState : Type 0 where
  pub me : ℕ
  pub first_valid : ℕ
  -- its record
  pub saved : NodeRecord
  -- the epoch of its last promise since it came up, or 0
  pub session : ℕ
  -- the devices that it has joined in this session
  pub joined : ℕ

-- a node that has panicked
pub record HaltedState : Type 0 where
  pub me : ℕ
  pub first_valid : ℕ
  pub cause : Panic

-- what holds of every running node: what it installed it promised, and its session is that of its promise, or none
pub record IsRunning (s : NodeState) : Type 0 where
  pub order : s.saved.installed ≤ s.saved.promised
  pub session : (s.session ≡ 0) ⊎ (s.session ≡ s.saved.promised)

-- what holds of every member: session, installed epoch and promise are one number, and not 0
pub record IsMember (s : NodeState) : Type 0 where
  pub session : s.session ≡ s.saved.promised
  pub installed : s.saved.installed ≡ s.saved.promised
  pub some : 0 < s.saved.promised

abbrev pub down_of : NodeState → DownState
down_of s = record { me = s.me; first_valid = s.first_valid }

abbrev pub halted_by : NodeState → Panic → HaltedState
halted_by s cause = record { me = s.me; first_valid = s.first_valid; cause = cause }

-- the node comes up with this record, in no session
abbrev pub booted : DownState → NodeRecord → NodeState
booted d r = record { me = d.me; first_valid = d.first_valid; saved = r; session = 0; joined = 0 }

-- the node promises p and is in session p; what it had joined is past
abbrev pub promised_to : NodeState → ℕ → NodeState
promised_to s p = record s { saved = record s.saved { promised = p }; session = p; joined = 0 }

abbrev pub with_valid : NodeState → ℕ → NodeState
with_valid s valid = record s { saved = record s.saved { valid = valid } }

abbrev pub with_entries : NodeState → EntryList → NodeState
with_entries s entries = record s { saved = record s.saved { entries = entries } }

-- the device is valid to the node and joined by it
abbrev pub with_joined : NodeState → ℕ → NodeState
with_joined s d = record s { saved = record s.saved { valid = set_with s.saved.valid d }; joined = set_with s.joined d }

-- valid and joined devices
pub record Devices : Type 0 where
  pub valid : ℕ
  pub joined : ℕ

-- whether one of the keys is the node's: each key is a cluster's id times 2^32 plus a node's number
abbrev pub has_key_of : ℕ → List ℕ → Bool
has_key_of me keys = list_any (λ k. k % 2 ^ 32 == me) keys

-- the key is that of a node of the cluster
pub record IsKeyOf (cluster key : ℕ) : Type 0 where
  pub node : ℕ
  pub most : node ≤ most_nodes
  pub is : key ≡ key_of cluster node

-- whether the node joins a device by the install itself: it seized the device, or its key was seen there and the
-- device was valid to it
abbrev pub joins : ℕ → ℕ → Reading → Bool
joins me valid reading = (reading.seizer == me) || (has_key_of me reading.keys && has valid reading.device)

-- such a device is valid and joined, another that was read is neither
abbrev pub joining_one : ℕ → Devices → Reading → Devices
joining_one me d reading =
    if joins me d.valid reading
    then record { valid = set_with d.valid reading.device; joined = set_with d.joined reading.device }
    else record { valid = set_without d.valid reading.device; joined = set_without d.joined reading.device }

-- so for each reading in turn
abbrev pub joining_all : ℕ → Devices → List Reading → Devices
joining_all me d [] = d
joining_all me d (reading ∷ readings) = joining_all me (joining_one me d reading) readings

-- the devices after an install: those that were not read stay valid, or not, and are not joined
abbrev pub devices_after : NodeState → Install → Devices
devices_after s i = joining_all s.me (record { valid = s.saved.valid; joined = 0 }) i.readings

-- each reading is of a device, and no two are of one
abbrev pub AreOfDevices : List Reading → Type 0
AreOfDevices [] = Unit {0}
AreOfDevices (r ∷ readings) = (1 ≤ r.device) × (r.device ≤ 16) × All (λ other. other.device ≢ r.device) readings × AreOfDevices readings

abbrev pub IsOneOf : Reading → List Reading → Type 0
IsOneOf r [] = ⊥
IsOneOf r (first ∷ readings) = (r ≡ first) ⊎ IsOneOf r readings

abbrev pub entries_of : Install → EntryList
entries_of i = record { committed = i.committed; pending = i.pending }

-- the node installs: the record is the one that came, under its number, what was pending still pending
abbrev pub installed_with : NodeState → Install → NodeState
installed_with s i = record s { saved = record { promised = s.saved.promised; installed = i.epoch; members = i.members; valid = (devices_after s i).valid; entries = entries_of i }; joined = (devices_after s i).joined }

-- the membership starts: the pending update is committed
abbrev pub started : NodeState → NodeState
started s = with_entries s (all_committed s.saved.entries)
