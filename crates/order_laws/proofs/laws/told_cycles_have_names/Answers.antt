use Rattle.order_laws.proofs.Cycles.{told_have_names}
use Rattle.order_laws.proofs.laws.told_cycles_have_names.Goals as goal

pub returns : goal.returns
returns c = record { names = told_have_names c.a_cycle_is_there.ensures c.a_cycle_is_closed.ensures }
