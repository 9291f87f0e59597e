use Rattle.rg_deps.proofs.Chosen.{order_is_found}
use Rattle.rg_deps.proofs.laws.an_order_is_found.Goals as goal

pub returns : goal.returns
returns c = order_is_found
