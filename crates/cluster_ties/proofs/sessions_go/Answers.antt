use Rattle.cluster_ties.proofs.Sessions as proof
use Rattle.cluster_ties.proofs.sessions_go.Goals as goal

pub returns-clause-promises : goal.returns-clause-promises
returns-clause-promises c = proof.promises_go

pub returns-clause-crashes : goal.returns-clause-crashes
returns-clause-crashes c = proof.crashes_go
