use Rattle.cluster_ties.proofs.Distrusts as proof
use Rattle.cluster_ties.proofs.distrusts_go.Goals as goal

pub returns : goal.returns
returns c = proof.distrusts_go
