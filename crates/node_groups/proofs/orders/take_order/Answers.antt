use Rattle.node_model.specs.Left.{left_so}
use Rattle.node_groups.proofs.CarriedOut.{order_taken}
use Rattle.node_groups.proofs.orders.take_order.Goals as goal

pub returns : goal.returns
returns c = record {
  plan = order_taken c.is_member_in.result c.args.cluster.now c.args.me c.args.from c.args.up c.args.order.now c.args.outcome (left_so c.obey-done.new.up c.obey-done.result) c.hand_over.result
      c.args.out.now.items c.obey-done.new.out.items c.is_member_in.ensures.value c.if-not-is_member_in.false c.hand_over.ensures.value c.obey-done.ensures.plan;
}
