use Rattle.std.proofs.Common.{◌∙◌, ap, arith}
use Rattle.load_limits.specs.Loads.{load}
use Rattle.placement.specs.Loads.{brought_at}
use Rattle.placement.proofs.Sums.{adds, begins, ends, counted_by_place}
use Rattle.placement.proofs.loads.counted_load.Goals as goal

pub loop-place-init : goal.loop-place-init
loop-place-init c = record {
  most = omega arith;
  load = begins c.args.limit.now (brought_at c.args.g.now c.args.view.now c.args.n c.place_of-own.result) c.args.view.now.goals;
}

pub loop-place-preserved : goal.loop-place-preserved
loop-place-preserved c = record {
  most = omega arith;
  load = adds c.args.limit.now (brought_at c.args.g.now c.args.view.now c.args.n c.place_of-own.result) c.args.view.now.goals c.loop-place.place c.loop-place.load c.brought_at.result c.min-load.result
      (omega arith) c.brought_at.ensures.value c.loop-place.invariant.load;
}

pub returns-clause-value : goal.returns-clause-value
returns-clause-value c =
    ends c.args.limit.now (brought_at c.args.g.now c.args.view.now c.args.n c.place_of-own.result) c.args.view.now.goals c.loop-place.place c.loop-place.load (omega arith)
    c.loop-place.invariant.most c.loop-place.invariant.load
    ∙ ap (load c.args.limit.now) (counted_by_place c.args.g.now c.args.view.now c.args.n c.args.name.now c.place_of-own.result c.place_of-own.ensures)
