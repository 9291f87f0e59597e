use Rattle.group_history.proofs.Due.{of_clients}
use Rattle.group_history.proofs.Clients.{exact}
use Rattle.group_history.proofs.laws.weights_are_exact.Goals as goal

pub returns : goal.returns
returns c S e name moments served later before targets is = exact _ later before targets (of_clients S e name moments served) is
