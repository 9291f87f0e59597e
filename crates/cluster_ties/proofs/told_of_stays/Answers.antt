use Rattle.cluster_ties.proofs.Told as proof
use Rattle.cluster_ties.proofs.told_of_stays.Goals as goal

pub returns-clause-stays : goal.returns-clause-stays
returns-clause-stays c = proof.told_of_stays

pub returns-clause-takes : goal.returns-clause-takes
returns-clause-takes c = proof.takes_are_told
