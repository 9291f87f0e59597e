use Rattle.std.proofs.Common.{rules, ◌∙◌}
use Rattle.node_model.specs.Attempts.{adopted_on}
use Rattle.node_adoption.proofs.Lists.{told_more}
use Rattle.node_adoption.proofs.Whole.{all_told}
use Rattle.node_adoption.proofs.adopted.tell_flags.Goals as goal

pub loop-member-preserved : goal.loop-member-preserved
loop-member-preserved c =
    told_more (adopted_on c.args.epoch c.args.view.now c.args.groups.now.resources) c.deref-member-items.result.now c.loop-member.member-index
    c.args.out.now.items c.loop-member.out.items c.tell_member.new.out.items c.member-item.result c.loop-member-test.true c.member-item.is c.loop-member.invariant c.in_ok-tell_member.ensures

pub returns : goal.returns
returns c =
    all_told c.args.epoch c.args.view.now c.args.groups.now.resources c.deref-member-items.result.now c.loop-member.member-index c.args.out.now.items c.loop-member.out.items
    (c.deref-member-items.ensures.value ∙ c.in_ok-members.ensures.value) (search rules) c.loop-member.invariant
