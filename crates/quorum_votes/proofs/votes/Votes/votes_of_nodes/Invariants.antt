use Rattle.std.proofs.Common.{◌≡◌, ◌≤◌}
use Rattle.quorum_votes.specs.Sums.{sum_to}
use Rattle.quorum_votes.specs.Votes.{vote_of}
use Rattle.quorum_votes.proofs.votes.Votes.votes_of_nodes.Given as goal

abbrev pub invariant-loop-place : goal.invariant-loop-place
invariant-loop-place l = record { counted : l.votes ≡ sum_to (vote_of l.self) l.place; most : l.votes ≤ l.place }
