-- What a majority is for: of the same votes there are no two apart.
use Rattle.std.specs.Prelude.{◌≡◌, ℕ, ◌*◌, ◌<◌, ◌≤◌, ◌⊎◌, true}
use Rattle.cl_base.specs.Sets.{has}
use Rattle.quorum_votes.specs.Tables.{VoteTable}
use Rattle.quorum_votes.specs.Votes.{vote_of, device_votes_of, held_of, total_of}

-- the members and the devices held have more than half of all votes
abbrev pub IsMajority : VoteTable → ℕ → ℕ → Type 0
IsMajority v members devices = total_of v < 2 * held_of v members devices

-- a node that both have, and that has a vote
pub record ShareNode (v : VoteTable) (members members' : ℕ) : Type 0 where
  pub node : ℕ
  pub low : 1 ≤ node
  pub high : node ≤ 32
  pub one : has members node ≡ true
  pub other : has members' node ≡ true
  pub votes : vote_of v node ≡ 1

-- a device that both have, and that has votes
pub record ShareDevice (v : VoteTable) (devices devices' : ℕ) : Type 0 where
  pub device : ℕ
  pub low : 1 ≤ device
  pub high : device ≤ 16
  pub one : has devices device ≡ true
  pub other : has devices' device ≡ true
  pub votes : 0 < device_votes_of v device

-- two majorities of the same votes share a member with a vote, or a device with votes
abbrev pub MajoritiesMeet : Type 0
MajoritiesMeet = (v : VoteTable) (members devices members' devices' : ℕ) → IsMajority v members devices → IsMajority v members' devices'
    → ShareNode v members members' ⊎ ShareDevice v devices devices'

-- nobody holds more than all votes
abbrev pub HeldIsWithin : Type 0
HeldIsWithin = (v : VoteTable) (members devices : ℕ) → held_of v members devices ≤ total_of v
