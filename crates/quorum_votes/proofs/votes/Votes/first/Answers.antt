use Rattle.quorum_votes.proofs.PlaceLemmas.{first_nodes_at}
use Rattle.quorum_votes.proofs.votes.Votes.first.Goals as goal

pub returns-clause-nodes : goal.returns-clause-nodes
returns-clause-nodes c = λ n low high. rw c.first_nodes.ensures (first_nodes_at c.args.h.now.configured 32 n low high)
