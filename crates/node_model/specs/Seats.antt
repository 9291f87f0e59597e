-- A node that is up, and what it is seen to be.
use Rattle.std.specs.Prelude.{ℕ, ◌%◌, ◌==◌, ◌&&◌, nat_le, max, Bool, true, false, [], Option, None, Some, if◌then◌else◌}
use Rattle.cl_base.specs.Limits.{most_nodes}
use Rattle.cmm_member.specs.Records.{NodeRecord}
use Rattle.cmm_member.specs.Nodes.{NodeState, booted, promised_to}
use Rattle.cl_base.specs.declared.header.Version.{Version}
use Rattle.heartbeats.specs.Peers.{at_boot}
use Rattle.request_queue.specs.Queue.{ended, nothing_asked}
use Rattle.rgm_member.specs.State.{new_worker}
use Rattle.node_model.specs.declared.cluster.Cluster.{Cluster}
use Rattle.node_model.specs.declared.node.UpNode.{UpNode}
use Rattle.node_model.specs.declared.seat.Seat.{Seat}
use Rattle.node_model.specs.declared.seat.Seat.TheVariants.{Forming, Member}

-- what it keeps, whether it is a member or not
abbrev pub state_of : Seat → NodeState
state_of (Forming s) = s
state_of (Member s) = s

abbrev pub with_state : Seat → NodeState → Seat
with_state (Forming s) t = Forming t
with_state (Member s) t = Member t

abbrev pub is_member : Seat → Bool
is_member (Forming s) = false
is_member (Member s) = true

-- the version of the schedule
abbrev pub version_of : Cluster → Version
version_of c = c.header.version

-- its record, as it is to be saved
abbrev pub record_of : UpNode → NodeRecord
record_of x = (state_of x.seat).saved

abbrev pub session_of : UpNode → ℕ
session_of x = (state_of x.seat).session

abbrev pub promised_of : UpNode → ℕ
promised_of x = (record_of x).promised

abbrev pub installed_of : UpNode → ℕ
installed_of x = (record_of x).installed

-- it is in the session of this epoch, which is one
abbrev pub is_in : UpNode → ℕ → Bool
is_in x epoch = nat_le 1 epoch && (session_of x == epoch)

-- the node of this number, where it is one
abbrev pub node_numbered : ℕ → Option ℕ
node_numbered n = if nat_le 1 n && nat_le n most_nodes then Some n else None

-- the node that coordinates its session
abbrev pub coordinator_of : UpNode → Option ℕ
coordinator_of x = node_numbered (session_of x % 64)

-- with another state of the same kind
abbrev pub with_node : UpNode → NodeState → UpNode
with_node x s = record x { seat = with_state x.seat s }

-- it has promised p: it is no member, and so no president; its tasks are gone, and its requests; an attempt of its own is not under way
-- any more
abbrev pub promising : UpNode → ℕ → UpNode
promising x p = record x { seat = Forming (promised_to (state_of x.seat) p); tasks = []; attempt = None; requests = ended x.requests; presidency = None }

-- it has seen this epoch
abbrev pub seen : UpNode → ℕ → UpNode
seen x epoch = record x { greatest = max x.greatest epoch }

-- it comes up with this record
abbrev pub up_with : ℕ → ℕ → NodeRecord → UpNode
up_with me first_valid r = record {
  seat = Forming (booted (record { me = me; first_valid = first_valid }) r);
  greatest = r.promised;
  beats = at_boot me;
  tasks = [];
  attempt = None;
  requests = nothing_asked;
  worker = new_worker me;
  second = 0;
  made = record {};
  presidency = None;
}
