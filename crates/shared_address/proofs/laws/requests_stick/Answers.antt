use Rattle.shared_address.proofs.Sticks.{clients_stick, ports_stick}
use Rattle.shared_address.proofs.laws.requests_stick.Goals as goal

pub returns-clause-ports : goal.returns-clause-ports
returns-clause-ports c = ports_stick

pub returns-clause-clients : goal.returns-clause-clients
returns-clause-clients c = clients_stick
