use Rattle.cluster_ties.proofs.Others as proof
use Rattle.cluster_ties.proofs.starts_go.Goals as goal

pub returns-clause-starts : goal.returns-clause-starts
returns-clause-starts c = proof.starts_go

pub returns-clause-sits : goal.returns-clause-sits
returns-clause-sits c = proof.sits_go
