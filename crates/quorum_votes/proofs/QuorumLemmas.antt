-- Two majorities of the same votes meet.
use Rattle.std.proofs.Common.{◌≡◌, ℕ, ◌+◌, ◌<◌, ◌≤◌, ◌⊎◌, inl, inr, suc, zero, refl, arith, Bool, true, false, if◌then◌else◌}
use Rattle.cl_base.specs.Sets.{has}
use Rattle.quorum_votes.specs.declared.state.NodeState.{NodeState}
use Rattle.quorum_votes.specs.declared.state.NodeState.TheVariants.{Unconfigured, Maintenance, Voting}
use Rattle.quorum_votes.specs.Sums.{sum_to}
use Rattle.quorum_votes.specs.Tables.{VoteTable}
use Rattle.quorum_votes.specs.Votes.{node_at, vote_in, vote_of, device_votes_of, node_share, device_share}
use Rattle.quorum_votes.specs.Quorum.{IsMajority, ShareNode, ShareDevice, MajoritiesMeet, HeldIsWithin}
use Rattle.quorum_votes.proofs.SumLemmas.{SharedTo, shared_or_within, sum_to_le}

share_le : (a : Bool) (votes : ℕ) → (if a then votes else 0) ≤ votes
share_le true votes = omega arith
share_le false votes = omega arith

shared_or_apart : (a b : Bool) (votes : ℕ) → ((a ≡ true) × (b ≡ true) × (0 < votes)) ⊎ ((if a then votes else 0) + (if b then votes else 0) ≤ votes)
shared_or_apart true true zero = inr (omega arith)
shared_or_apart true true (suc n) = inl (refl, refl, omega arith)
shared_or_apart true false votes = inr (omega arith)
shared_or_apart false true votes = inr (omega arith)
shared_or_apart false false votes = inr (omega arith)

one_vote : (s : NodeState) → 0 < vote_in s → vote_in s ≡ 1
one_vote Voting lt = refl
one_vote Maintenance lt = absurd (omega arith)
one_vote Unconfigured lt = absurd (omega arith)

abbrev pub BothHave : (ℕ → ℕ) → ℕ → ℕ → ℕ → Type 0
BothHave votes a b n = (has a n ≡ true) × (has b n ≡ true) × (0 < votes n)

node_shared : (v : VoteTable) (a b : ℕ) → SharedTo (BothHave (vote_of v) a b) 32 → ShareNode v a b
node_shared v a b s = record { node = s.number; low = s.low; high = s.high; one = s.shared.0; other = s.shared.1; votes = one_vote (node_at v s.number) s.shared.2 }

device_shared : (v : VoteTable) (a b : ℕ) → SharedTo (BothHave (device_votes_of v) a b) 16 → ShareDevice v a b
device_shared v a b s = record { device = s.number; low = s.low; high = s.high; one = s.shared.0; other = s.shared.1; votes = s.shared.2 }

meet_or : (v : VoteTable) (members devices members' devices' : ℕ) → IsMajority v members devices → IsMajority v members' devices'
    → SharedTo (BothHave (vote_of v) members members') 32 ⊎ (sum_to (node_share v members) 32 + sum_to (node_share v members') 32 ≤ sum_to (vote_of v) 32)
    → SharedTo (BothHave (device_votes_of v) devices devices') 16 ⊎ (sum_to (device_share v devices) 16 + sum_to (device_share v devices') 16 ≤ sum_to (device_votes_of v) 16)
    → ShareNode v members members' ⊎ ShareDevice v devices devices'
meet_or v members devices members' devices' one other (inl s) _ = inl (node_shared v members members' s)
meet_or v members devices members' devices' one other (inr le) (inl s) = inr (device_shared v devices devices' s)
meet_or v members devices members' devices' one other (inr le) (inr more) = absurd (omega (arith, one, other, le, more))

pub majorities_meet_lem : MajoritiesMeet
majorities_meet_lem v members devices members' devices' one other =
    meet_or v members devices members' devices' one other
    (shared_or_within (BothHave (vote_of v) members members') (node_share v members) (node_share v members') (vote_of v) (λ n. shared_or_apart (has members n) (has members' n) (vote_of v n)) 32)
    (shared_or_within (BothHave (device_votes_of v) devices devices') (device_share v devices) (device_share v devices') (device_votes_of v) (λ n. shared_or_apart (has devices n) (has devices' n) (device_votes_of v n)) 16)

nodes_within : (v : VoteTable) (members : ℕ) → sum_to (node_share v members) 32 ≤ sum_to (vote_of v) 32
nodes_within v members = sum_to_le (node_share v members) (vote_of v) (λ n. share_le (has members n) (vote_of v n)) 32

devices_within : (v : VoteTable) (devices : ℕ) → sum_to (device_share v devices) 16 ≤ sum_to (device_votes_of v) 16
devices_within v devices = sum_to_le (device_share v devices) (device_votes_of v) (λ d. share_le (has devices d) (device_votes_of v d)) 16

pub held_is_within : HeldIsWithin
held_is_within v members devices = omega (arith, nodes_within v members, devices_within v devices)
