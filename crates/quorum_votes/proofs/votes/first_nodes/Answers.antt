use Rattle.std.proofs.Common.{◌≡◌, ◌+◌, ◌++◌, [], ◌∷◌, arith}
use Rattle.quorum_votes.specs.declared.state.NodeState.TheVariants.{Unconfigured}
use Rattle.quorum_votes.specs.Votes.{first_nodes}
use Rattle.quorum_votes.proofs.PlaceLemmas.{filled, first_nodes_size, first_nodes_more}
use Rattle.quorum_votes.proofs.votes.first_nodes.Goals as goal

pub loop-place-preserved : goal.loop-place-preserved
loop-place-preserved c =
    let next : first_nodes c.args.configured (c.loop-place.place + 1) ≡ first_nodes c.args.configured c.loop-place.place ++ c.first_node.result ∷ [] =
    rw c.first_node.ensures (first_nodes_more c.args.configured c.loop-place.place) in
    filled 32 c.loop-place.place Unconfigured c.first_node.result (first_nodes c.args.configured c.loop-place.place) (first_nodes c.args.configured (c.loop-place.place + 1)) c.loop-place.nodes
    (omega arith) (first_nodes_size c.args.configured c.loop-place.place) next c.loop-place.invariant
