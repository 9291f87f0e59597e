-- What a node keeps of the heartbeats of the others, and what the lines tell of them.
use Rattle.std.specs.Prelude.{ℕ, ◌≡◌, ◌≤◌, Bool, true, false, List, length, Option, None, Some}
use Rattle.heartbeats.specs.declared.peer.Beat.{Beat}
use Rattle.heartbeats.specs.declared.peer.Peer.{Peer}
use Rattle.heartbeats.specs.Peers.{peer_in}
use Rattle.heartbeats.specs.State.{State}
use Rattle.history.specs.Attempts.{age_of, last_heartbeat}
use Rattle.history.specs.Moment.{Moment}
use Rattle.node_model.specs.Members.{beat_in}
use Rattle.node_model.specs.declared.node.Node.{Node}
use Rattle.node_model.specs.declared.node.Node.TheVariants.{Down, Up}
use Rattle.wire.specs.declared.message.Body.{Body}
use Rattle.wire.specs.declared.message.Body.TheVariants as body
use Rattle.run_attempts.specs.Laws.{beat_age_of}

-- a packet of a node that was heard was delivered, as lately as is kept; all ages above 3 are one
abbrev pub AgeSo : Option Peer → Option ℕ → Type 0
AgeSo None age = Unit {0}
AgeSo (Some peer) None = ⊥
AgeSo (Some peer) (Some k) = peer.age ≤ 3 → k ≤ peer.age

-- where a Heartbeat was delivered the node was heard, as lately
abbrev pub NearSo : Option Peer → Option ℕ → Type 0
NearSo peer None = Unit {0}
NearSo None (Some k) = ⊥
NearSo (Some peer) (Some k) = peer.age ≤ k

abbrev pub beat_of : Option Peer → Option Beat
beat_of None = None
beat_of (Some peer) = peer.beat

abbrev pub is_beat : Body → Bool
is_beat (body.Heartbeat promised session is_one) = true
is_beat b = false

abbrev pub beat_told : Option Body → Option Beat
beat_told None = None
beat_told (Some b) = beat_in b

pub record PeerSo (moments : List Moment) (n m : ℕ) (peer : Option Peer) : Type 0 where
  pub age : AgeSo peer (age_of n m moments)
  pub near : NearSo peer (beat_age_of n m moments)
  pub beat : beat_of peer ≡ beat_told (last_heartbeat n m moments)

pub record BeatsSo (moments : List Moment) (n : ℕ) (s : State) : Type 0 where
  pub me : s.me ≡ n
  pub room : length s.peers ≡ 32
  pub peers : (m : ℕ) → 1 ≤ m → m ≤ 32 → PeerSo moments n m (peer_in s.peers m)

abbrev pub NodeSo : List Moment → ℕ → Node → Type 0
NodeSo moments n Down = Unit {0}
NodeSo moments n (Up x) = BeatsSo moments n x.beats
