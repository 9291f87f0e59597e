use Rattle.std.proofs.Common.{ap, ◌∙◌}
use Rattle.cl_base.specs.Limits.{most_nodes}
use Rattle.cl_base.specs.Numbers.{numbers_to}
use Rattle.node_groups.proofs.Repeats.{each_again}
use Rattle.node_groups.proofs.again.send_orders_again.Goals as goal

pub returns : goal.returns
returns c = record {
  told = each_again c.args.due c.args.up.now.presidency c.in-Some.presidency c.deref.result.now c.send_each.result c.args.out.now.items c.send_each.new.out.items c.in-Some.is
      (c.deref.ensures.value ∙ c.in_ok-members.ensures.value ∙ ap (λ v. numbers_to v.members most_nodes) c.view.ensures.value) c.send_each.ensures.told;
}
