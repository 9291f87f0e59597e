use Rattle.group_history.proofs.Due.{of_clients}
use Rattle.group_history.proofs.Clients.{ports, clients}
use Rattle.group_history.proofs.laws.clients_stick.Goals as goal

pub returns-clause-ports : goal.returns-clause-ports
returns-clause-ports c S e name moments served = ports _ (of_clients S e name moments served)

pub returns-clause-clients : goal.returns-clause-clients
returns-clause-clients c S e name moments served = clients _ (of_clients S e name moments served)
