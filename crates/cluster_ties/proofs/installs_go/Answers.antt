use Rattle.cluster_ties.proofs.Installs as proof
use Rattle.cluster_ties.proofs.installs_go.Goals as goal

pub returns : goal.returns
returns c = proof.installs_go
