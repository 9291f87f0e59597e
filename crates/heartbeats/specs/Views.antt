-- The view of a node, and to whom its heartbeats go.
use Rattle.std.specs.Prelude.{ℕ, ◌+◌, zero, suc, ◌==◌, nat_le, ◌&&◌, ◌||◌, not, Bool, true, false, List, Option, None, Some, map, if◌then◌else◌}
use Rattle.cl_base.specs.Sets.{has, set_with}
use Rattle.heartbeats.specs.declared.peer.Peer.{Peer}
use Rattle.heartbeats.specs.State.{State}
use Rattle.heartbeats.specs.Peers.{peer_in, older, is_near}

-- the numbers 1 to k that pass the test, as a set
abbrev pub set_where : (ℕ → Bool) → ℕ → ℕ
set_where test zero = 0
set_where test (suc k) = if test (suc k) then set_with (set_where test k) (suc k) else set_where test k

-- the node itself and those that are near; a configured node counts configured ones alone
abbrev pub is_in_view : ℕ → List (Option Peer) → ℕ → ℕ → Bool
is_in_view me peers configured n = (n == me) || (is_near (peer_in peers n) && (not (has configured me) || has configured n))

unfoldable pub view_of : ℕ → List (Option Peer) → ℕ → ℕ
view_of me peers configured = set_where (is_in_view me peers configured) 32

-- the count starts at 1 where the view is another than at the last tick
abbrev pub stable_after : Option ℕ → ℕ → ℕ → ℕ
stable_after None stable view = 1
stable_after (Some last) stable view = if last == view then (if nat_le 3 stable then 3 else stable + 1) else 1

-- each age grows, then the view is taken
abbrev pub viewed : State → List (Option Peer) → ℕ → State
viewed s peers view = record s { peers = peers; view = Some view; stable = stable_after s.view s.stable view }

abbrev pub ticked : State → ℕ → State
ticked s configured = viewed s (map older s.peers) (view_of s.me (map older s.peers) configured)

abbrev pub is_heard : Option Peer → Bool
is_heard None = false
is_heard (Some peer) = true

-- a configured node sends to every other configured one, any other node to each that it has heard
abbrev pub is_receiver : State → ℕ → ℕ → Bool
is_receiver s configured n = not (n == s.me) && (if has configured s.me then has configured n else is_heard (peer_in s.peers n))

unfoldable pub receivers_of : State → ℕ → ℕ
receivers_of s configured = set_where (is_receiver s configured) 32
