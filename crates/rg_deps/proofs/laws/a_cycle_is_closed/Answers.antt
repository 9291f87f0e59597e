use Rattle.rg_deps.proofs.Closed.{cycle_is_closed}
use Rattle.rg_deps.proofs.laws.a_cycle_is_closed.Goals as goal

pub returns : goal.returns
returns c = cycle_is_closed
