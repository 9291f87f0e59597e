use Rattle.std.proofs.Common.{rules, ◌∙◌}
use Rattle.address_targets.proofs.Gathered.{one_more, all_gathered, are_ascending, are_weighted}
use Rattle.address_targets.proofs.targets.targets_of.Goals as goal

pub loop-member-preserved : goal.loop-member-preserved
loop-member-preserved c =
    one_more c.args.config.now c.args.view.now c.args.address.now c.deref-member-items.result.now c.loop-member.member-index c.member-item.result
    c.loop-member.targets.items c.add_target.new.targets.items c.loop-member-test.true c.member-item.is c.loop-member.invariant c.in_ok-add_target.ensures

pub returns : goal.returns
returns c =
    let are = all_gathered c.args.config.now c.args.view.now c.args.address.now c.deref-member-items.result.now c.loop-member.member-index c.loop-member.targets.items
    (c.deref-member-items.ensures.value ∙ c.in_ok-members.ensures.value) (search rules) c.loop-member.invariant in
    record {
      value = are;
      order = are_ascending c.args.config.now c.args.view.now c.args.address.now c.loop-member.targets.items are;
      weights = are_weighted c.args.config.now c.args.view.now c.args.address.now c.loop-member.targets.items are;
    }
