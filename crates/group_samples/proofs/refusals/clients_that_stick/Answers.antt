use Rattle.group_samples.proofs.Clients.{elsewhere, nobody, elsewhere_by_client, nobody_by_client}
use Rattle.group_samples.proofs.refusals.clients_that_stick.Goals as goal

pub returns-clause-elsewhere : goal.returns-clause-elsewhere
returns-clause-elsewhere c = elsewhere

pub returns-clause-nobody : goal.returns-clause-nobody
returns-clause-nobody c = nobody

pub returns-clause-elsewhere_by_client : goal.returns-clause-elsewhere_by_client
returns-clause-elsewhere_by_client c = elsewhere_by_client

pub returns-clause-nobody_by_client : goal.returns-clause-nobody_by_client
returns-clause-nobody_by_client c = nobody_by_client
