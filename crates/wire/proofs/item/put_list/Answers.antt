use Rattle.std.proofs.Common.{add-one, arith, rules}
use Rattle.std.proofs.lemmas.Grind.{common_steps}
use Rattle.wire.proofs.Short.{all_more}
use Rattle.wire.proofs.item.put_list.Goals as goal

pub loop-item-preserved : goal.loop-item-preserved
loop-item-preserved g c = record {
  spelled = first_of (search rules, grind (arith, common_steps));
  range = rw add-one (all_more g.T.Item.fits c.args.items.now c.loop-item.item-index c.item-item.result c.loop-item-test.true c.item-item.is c.in_ok-put.ensures.range c.loop-item.invariant.range);
}
