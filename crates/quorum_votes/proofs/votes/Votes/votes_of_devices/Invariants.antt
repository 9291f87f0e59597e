use Rattle.std.proofs.Common.{◌≡◌, ◌≤◌, ◌*◌}
use Rattle.quorum_votes.specs.Sums.{sum_to}
use Rattle.quorum_votes.specs.Votes.{device_votes_of}
use Rattle.quorum_votes.proofs.votes.Votes.votes_of_devices.Given as goal

abbrev pub invariant-loop-place : goal.invariant-loop-place
invariant-loop-place l = record { counted : l.votes ≡ sum_to (device_votes_of l.self) l.place; most : l.votes ≤ 31 * l.place }
