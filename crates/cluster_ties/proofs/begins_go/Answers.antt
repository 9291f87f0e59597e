use Rattle.cluster_ties.proofs.Begins as proof
use Rattle.cluster_ties.proofs.begins_go.Goals as goal

pub returns : goal.returns
returns c = proof.begins_go
