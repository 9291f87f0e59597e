use Rattle.rg_deps.proofs.Chosen.{chosen_is_order}
use Rattle.rg_deps.proofs.laws.what_is_chosen_is_an_order.Goals as goal

pub returns : goal.returns
returns c = chosen_is_order
