use Rattle.log_laws.proofs.Logs.{logs_have_no_cycle}
use Rattle.log_laws.proofs.laws.logs_have_no_cycle.Goals as goal

pub returns : goal.returns
returns c = record {
  order = logs_have_no_cycle c.what_is_chosen_is_an_order.ensures c.a_cycle_is_there.ensures c.a_cycle_is_closed.ensures c.what_is_needed_is_there.ensures.targets;
}
