-- What is known of the other nodes, and how it ages.
use Rattle.std.specs.Prelude.{ℕ, ◌+◌, ◌-◌, nat_le, Bool, false, List, Option, None, Some, replicate, slice_index_or, slice_set, if◌then◌else◌}
use Rattle.heartbeats.specs.declared.peer.Peer.{Peer}
use Rattle.heartbeats.specs.declared.peer.Beat.{Beat}
use Rattle.heartbeats.specs.State.{State}

abbrev pub peer_in : List (Option Peer) → ℕ → Option Peer
peer_in peers n = slice_index_or peers (n - 1) None

-- at the boot nothing is known
abbrev pub at_boot : ℕ → State
at_boot me = record { me = me; peers = replicate 32 None; view = None; stable = 0; wait = 0 }

-- the heartbeat that the packet is, else the last one
abbrev pub beat_after : Option Beat → Option Peer → Option Beat
beat_after (Some beat) peer = Some beat
beat_after None (Some peer) = peer.beat
beat_after None None = None

-- a packet of node n was delivered, which is this heartbeat or none
abbrev pub heard : State → ℕ → Option Beat → State
heard s n beat = record s { peers = slice_set s.peers (n - 1) (Some (record { age = 0; beat = beat_after beat (peer_in s.peers n) })) }

-- a tick later; ages above 3 are one
abbrev pub older : Option Peer → Option Peer
older None = None
older (Some peer) = Some (record peer { age = if nat_le 4 peer.age then 4 else peer.age + 1 })

-- whether a packet was delivered within the last ticks
abbrev pub is_near : Option Peer → Bool
is_near None = false
is_near (Some peer) = nat_le peer.age 3
