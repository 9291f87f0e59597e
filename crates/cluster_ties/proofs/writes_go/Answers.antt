use Rattle.cluster_ties.proofs.Writes as proof
use Rattle.cluster_ties.proofs.writes_go.Goals as goal

pub returns : goal.returns
returns c = proof.writes_go
