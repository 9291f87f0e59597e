use Rattle.cluster_ties.proofs.Commands as proof
use Rattle.cluster_ties.proofs.commands_go.Goals as goal

pub returns : goal.returns
returns c = proof.commands_go
