use Rattle.std.proofs.Common.{◌≡◌, ◌-◌, ◌++◌, replicate}
use Rattle.quorum_votes.specs.declared.state.NodeState.TheVariants.{Unconfigured}
use Rattle.quorum_votes.specs.Votes.{first_nodes}
use Rattle.quorum_votes.proofs.votes.first_nodes.Given as goal

abbrev pub invariant-loop-place : goal.invariant-loop-place
invariant-loop-place l = l.nodes ≡ first_nodes l.configured l.place ++ replicate (32 - l.place) Unconfigured
