use Rattle.cluster_ties.proofs.Seizes as proof
use Rattle.cluster_ties.proofs.seizes_go.Goals as goal

pub returns-clause-accepts : goal.returns-clause-accepts
returns-clause-accepts c = proof.seizes_go

pub returns-clause-queues : goal.returns-clause-queues
returns-clause-queues c = proof.queues_go
