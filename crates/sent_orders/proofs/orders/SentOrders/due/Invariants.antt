use Rattle.std.proofs.Common.{◌≡◌}
use Rattle.sent_orders.specs.Ticks.{due_to}
use Rattle.sent_orders.proofs.orders.SentOrders.due.Given as goal

abbrev pub invariant-loop-place : goal.invariant-loop-place
invariant-loop-place l = l.due ≡ due_to l.self l.place
