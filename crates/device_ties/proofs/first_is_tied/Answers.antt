use Rattle.device_ties.proofs.Others.{first_tied, first_nodes}
use Rattle.device_ties.proofs.FirstKeys.{first_keys_tied}
use Rattle.device_ties.proofs.first_is_tied.Goals as goal

pub returns-clause-device : goal.returns-clause-device
returns-clause-device c = first_tied

pub returns-clause-nodes : goal.returns-clause-nodes
returns-clause-nodes c = first_nodes

pub returns-clause-keys : goal.returns-clause-keys
returns-clause-keys c = first_keys_tied
