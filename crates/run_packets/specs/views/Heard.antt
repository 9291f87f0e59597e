-- What a node keeps of the packets of the others, and what the lines tell of them.
use Rattle.std.specs.Prelude.{ℕ, ◌≡◌, ◌≤◌, nat_le, if◌then◌else◌, List, length, Option, None, Some}
use Rattle.heartbeats.specs.declared.peer.Peer.{Peer}
use Rattle.heartbeats.specs.Peers.{peer_in}
use Rattle.heartbeats.specs.State.{State}
use Rattle.history.specs.Moment.{Moment}
use Rattle.history.specs.Order.{Always}
use Rattle.history.specs.Setting.{Setting}
use Rattle.node_model.specs.declared.node.Node.{Node}
use Rattle.node_model.specs.declared.node.Node.TheVariants.{Down, Up}
use Rattle.run_packets.specs.views.Laws.{Account, BeginsNotAlone, ViewIs, heard_age_of}

-- ages above 3 are one
abbrev pub capped : ℕ → ℕ
capped k = if nat_le 4 k then 4 else k

abbrev pub AgeIs : Option Peer → Option ℕ → Type 0
AgeIs None None = Unit {0}
AgeIs (Some peer) (Some k) = peer.age ≡ capped k
AgeIs None (Some k) = ⊥
AgeIs (Some peer) None = ⊥

pub record BeatsAre (foreign : Account) (moments : List Moment) (n : ℕ) (s : State) : Type 0 where
  pub me : s.me ≡ n
  pub room : length s.peers ≡ 32
  pub peers : (m : ℕ) → 1 ≤ m → m ≤ 32 → AgeIs (peer_in s.peers m) (heard_age_of foreign n m moments)

abbrev pub NodeIs : Account → List Moment → ℕ → Node → Type 0
NodeIs foreign moments n Down = Unit {0}
NodeIs foreign moments n (Up x) = BeatsAre foreign moments n x.beats

pub record Judged (S : Setting) (foreign : Account) (before : List Moment) (x : Moment) : Type 0 where
  pub view : ViewIs S foreign before x
  pub alone : BeginsNotAlone S before x

abbrev pub AllViews : Setting → Account → List Moment → Type 0
AllViews S foreign moments = Always (Judged S foreign) moments
