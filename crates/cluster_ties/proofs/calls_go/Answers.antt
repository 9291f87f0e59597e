use Rattle.cluster_ties.proofs.Calls as proof
use Rattle.cluster_ties.proofs.GoesOn as node
use Rattle.cluster_ties.proofs.calls_go.Goals as goal

pub returns-clause-asks : goal.returns-clause-asks
returns-clause-asks c = proof.calls_go

pub returns-clause-node : goal.returns-clause-node
returns-clause-node c = node.calls_go_on
