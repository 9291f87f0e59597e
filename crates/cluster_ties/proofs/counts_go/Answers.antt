use Rattle.cluster_ties.proofs.Counts as proof
use Rattle.cluster_ties.proofs.counts_go.Goals as goal

pub returns : goal.returns
returns c = proof.counts_go
