use Rattle.log_laws.proofs.Logs.{accepted_leave_none}
use Rattle.log_laws.proofs.laws.accepted_updates_leave_no_cycle.Goals as goal

pub returns : goal.returns
returns c = record {
  order = accepted_leave_none c.what_is_chosen_is_an_order.ensures c.a_cycle_is_there.ensures c.a_cycle_is_closed.ensures c.what_is_needed_is_there.ensures.targets
      c.accepted_updates_hold.ensures.hold;
}
