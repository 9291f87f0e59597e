use Rattle.rg_deps.proofs.There.{cycle_is_there}
use Rattle.rg_deps.proofs.laws.a_cycle_is_there.Goals as goal

pub returns : goal.returns
returns c = cycle_is_there
