use Rattle.std.proofs.Common.{◌≡◌, ◌++◌, fold}
use Rattle.std.specs.List.{flat_map}
use Rattle.std.specs.Vec.Iter.{into_iter_items}
use Rattle.node_model.specs.Deciding.{age_with, order_sent}
use Rattle.node_decisions.proofs.orders.send_orders.Given as goal

-- the orders so far are sent
abbrev pub invariant-loop-order : goal.invariant-loop-order
invariant-loop-order l = record {
  can_next : goal.iterator-loop-order.can_next l.order-iterator;
  is_finite : goal.iterator-loop-order.is_finite l.order-iterator;
  whole : l.yielded ++ into_iter_items l.order-iterator ≡ l.fn.orders.items;
  told : l.out.items ≡ l.fn.out.items ++ flat_map (order_sent l.fn.me) l.yielded;
  ages : l.sent ≡ fold (age_with l.fn.me) l.fn.sent l.yielded;
}
