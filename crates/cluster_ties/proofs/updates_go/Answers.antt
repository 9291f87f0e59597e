use Rattle.cluster_ties.proofs.Updates as proof
use Rattle.cluster_ties.proofs.updates_go.Goals as goal

pub returns-clause-proposes : goal.returns-clause-proposes
returns-clause-proposes c = proof.proposes_go

pub returns-clause-lost : goal.returns-clause-lost
returns-clause-lost c = proof.proposals_are_lost

pub returns-clause-acknowledges : goal.returns-clause-acknowledges
returns-clause-acknowledges c = proof.acknowledges_go

pub returns-clause-prepares : goal.returns-clause-prepares
returns-clause-prepares c = proof.prepares_go

pub returns-clause-commits : goal.returns-clause-commits
returns-clause-commits c = proof.commits_go
