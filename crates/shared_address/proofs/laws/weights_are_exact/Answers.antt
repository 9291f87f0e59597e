use Rattle.shared_address.proofs.Exact.{weights_exact}
use Rattle.shared_address.proofs.laws.weights_are_exact.Goals as goal

pub returns : goal.returns
returns c = weights_exact
