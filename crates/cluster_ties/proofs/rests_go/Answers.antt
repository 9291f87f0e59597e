use Rattle.cluster_ties.proofs.Others as proof
use Rattle.cluster_ties.proofs.rests_go.Goals as goal

pub returns-clause-boots : goal.returns-clause-boots
returns-clause-boots c = proof.boots_go

pub returns-clause-rests : goal.returns-clause-rests
returns-clause-rests c = proof.rests_go
