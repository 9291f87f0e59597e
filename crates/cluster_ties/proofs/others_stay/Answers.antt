use Rattle.cluster_ties.proofs.Others as proof
use Rattle.cluster_ties.proofs.others_stay.Goals as goal

pub returns-clause-others : goal.returns-clause-others
returns-clause-others c = proof.others_stay

pub returns-clause-reached : goal.returns-clause-reached
returns-clause-reached c = proof.reached_stays
