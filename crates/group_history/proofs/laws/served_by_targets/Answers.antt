use Rattle.group_history.specs.Addresses.{answers_in}
use Rattle.group_history.proofs.Due.{of_clients}
use Rattle.group_history.proofs.Clients.{by_targets}
use Rattle.group_history.proofs.laws.served_by_targets.Goals as goal

pub returns : goal.returns
returns c S e name moments served = by_targets (answers_in S e name moments) (of_clients S e name moments served)
