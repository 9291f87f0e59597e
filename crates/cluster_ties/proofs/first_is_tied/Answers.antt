use Rattle.cluster_ties.proofs.First as proof
use Rattle.cluster_ties.proofs.first_is_tied.Goals as goal

pub returns-clause-devices : goal.returns-clause-devices
returns-clause-devices c = proof.first_devices_are_tied

pub returns-clause-whole : goal.returns-clause-whole
returns-clause-whole c = proof.first_is_tied
