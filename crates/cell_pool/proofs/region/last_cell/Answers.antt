use Rattle.std.proofs.Common.{◌≡◌, ◌+◌, ◌-◌, arith, ◌∙◌, sym, refl}
use Rattle.cell_pool.proofs.Walks.{after_step, next_inside, later_inside, first_inside}
use Rattle.cell_pool.proofs.region.last_cell.Goals as goal

pub loop-left-init : goal.loop-left-init
loop-left-init c = let e : c.args.count - 1 + 1 ≡ c.args.count = omega arith in record {
  here = first_inside _ _ _ c.args.count c.requires.some c.requires.inside;
  same = refl;
  inside = rw e c.requires.inside;
}

pub loop-left-preserved : goal.loop-left-preserved
loop-left-preserved c = record {
  here = next_inside _ _ _ c.loop-left.left c.loop-left-test.true c.loop-left.invariant.inside;
  same = sym (after_step _ _ _ c.loop-left-test.true) ∙ c.loop-left.invariant.same;
  inside = later_inside _ _ _ c.loop-left.left c.loop-left-test.true c.loop-left.invariant.inside;
}
