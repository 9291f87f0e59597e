-- When an attempt is to begin.
use Rattle.std.specs.Prelude.{ℕ, ◌-◌, zero, suc, ◌==◌, nat_le, nat_lt, ◌&&◌, ◌||◌, not, Bool, true, false, Option, None, Some}
use Rattle.cl_base.specs.Sets.{has, set_with}
use Rattle.heartbeats.specs.declared.peer.Peer.{Peer}
use Rattle.heartbeats.specs.declared.peer.Beat.{Beat}
use Rattle.heartbeats.specs.declared.due.Membership.{Membership}
use Rattle.heartbeats.specs.State.{State}
use Rattle.heartbeats.specs.Peers.{peer_in}

-- whether some number from 1 to k passes the test
abbrev pub some_to : (ℕ → Bool) → ℕ → Bool
some_to test zero = false
some_to test (suc k) = some_to test k || test (suc k)

-- a heartbeat that shows another session than this, or a greater promise
abbrev pub is_apart : ℕ → Option Beat → Bool
is_apart epoch None = false
is_apart epoch (Some beat) = not (beat.session == epoch) || nat_lt epoch beat.promised

abbrev pub shows_apart : ℕ → Option Peer → Bool
shows_apart epoch None = false
shows_apart epoch (Some peer) = is_apart epoch peer.beat

-- a membership is broken where the last heartbeat of another member is apart
abbrev pub breaks : State → Membership → ℕ → Bool
breaks s m n = not (n == s.me) && has m.members n && shows_apart m.epoch (peer_in s.peers n)

unfoldable pub is_broken : State → Membership → Bool
is_broken s m = some_to (breaks s m) 32

-- no member, or one whose membership is not its view, or is broken
abbrev pub wants_another : State → ℕ → Option Membership → Bool
wants_another s view None = true
wants_another s view (Some m) = not (m.members == view) || is_broken s m

-- n is in the set, and no smaller number is
abbrev pub is_least : ℕ → ℕ → Bool
is_least set n = has set n && not (some_to (has set) (n - 1))

-- the least of a view that has stood for three ticks; a node that is not configured waits for another node
abbrev pub begins_with : State → ℕ → Option Membership → Option ℕ → Bool
begins_with s configured m None = false
begins_with s configured m (Some view) = is_least view s.me && nat_le 3 s.stable && wants_another s view m && (has configured s.me || not (view == set_with 0 s.me))

abbrev pub begins : State → ℕ → Option Membership → Bool
begins s configured m = begins_with s configured m s.view
