use Rattle.std.proofs.Common.{◌≡◌, ◌≤◌}
use Rattle.quorum_votes.specs.Sums.{sum_to}
use Rattle.quorum_votes.specs.Votes.{node_share}
use Rattle.quorum_votes.proofs.votes.Votes.node_votes.Given as goal

abbrev pub invariant-loop-place : goal.invariant-loop-place
invariant-loop-place l = record { counted : l.votes ≡ sum_to (node_share l.self l.nodes) l.place; most : l.votes ≤ l.place }
