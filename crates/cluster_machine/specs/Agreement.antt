-- What stands in both machines is the same.
use Rattle.std.specs.Prelude.{ℕ, ◌≡◌, true}
use Rattle.membership_machine.specs.Votes.{Setting}
use Rattle.membership_machine.specs.State.{Node, Epoch, Memberships}
use Rattle.membership_machine.specs.Starts.{HasVotes}
use Rattle.device_machine.specs.Initiator.{Initiator}
use Rattle.device_machine.specs.Attempt.{Attempt}
use Rattle.device_machine.specs.Sharing.{Sharing}

-- a node of the machine of memberships, and what of it a device's machine has
pub record SameNode (n : Node) (v : Initiator) : Type 0 where
  pub promised : v.promised ≡ n.promised
  pub session : v.session ≡ n.session
  pub installed : v.installed ≡ n.saved.installed
  pub showed : (q : ℕ) → v.past.showed q ≡ (n.showed q).installed

-- an epoch of the machine of memberships, and what of it the machine of device d has
pub record SameAttempt (S : Setting) (d : ℕ) (e : Epoch) (a : Attempt) : Type 0 where
  pub tried : a.collected ≡ true → e.tried ≡ true
  pub members : a.collected ≡ true → (m : ℕ) → a.members m ≡ e.members m
  pub counted : a.counted ≡ e.counted
  pub holds : e.counted ≡ true → a.holds ≡ e.holds d
  pub quorum : e.counted ≡ true → e.holds d ≡ true → HasVotes S e d → a.quorum ≡ true

pub record Agrees (S : Setting) (d : ℕ) (w : Memberships) (s : Sharing) : Type 0 where
  pub node : (n : ℕ) → SameNode (w.node n) (s.node n)
  pub attempt : (q : ℕ) → SameAttempt S d (w.epoch q) (s.attempt q)
