use Rattle.rg_view.proofs.HeldOrders.{none_held}
use Rattle.rg_view.proofs.orders.Orders.new.Goals as goal

pub invariant_of-result : goal.invariant_of-result
invariant_of-result c = none_held c.new.result c.new.ensures.empty
