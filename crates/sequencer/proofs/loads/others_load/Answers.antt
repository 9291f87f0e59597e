use Rattle.std.proofs.Common.{◌∙◌, ap, arith}
use Rattle.load_limits.specs.Loads.{load}
use Rattle.placement.proofs.Sums.{adds, begins, ends}
use Rattle.sequencer.specs.Loads.{brought, others_load}
use Rattle.sequencer.proofs.Sums.{each_brings}
use Rattle.sequencer.proofs.loads.others_load.Goals as goal

pub loop-place-init : goal.loop-place-init
loop-place-init c = record {
  most = omega arith;
  load = begins c.args.limit.now (λ place e. brought c.args.g.now c.args.view.now c.args.own.now c.args.n e) c.args.g.now.groups;
}

pub loop-place-preserved : goal.loop-place-preserved
loop-place-preserved c = record {
  most = omega arith;
  load = adds c.args.limit.now (λ place e. brought c.args.g.now c.args.view.now c.args.own.now c.args.n e) c.args.g.now.groups c.loop-place.place c.loop-place.load c.brought_at.result c.min-load.result
      (omega arith) c.brought_at.ensures.value c.loop-place.invariant.load;
}

pub returns-clause-value : goal.returns-clause-value
returns-clause-value c =
    ends c.args.limit.now (λ place e. brought c.args.g.now c.args.view.now c.args.own.now c.args.n e) c.args.g.now.groups c.loop-place.place c.loop-place.load (omega arith)
    c.loop-place.invariant.most c.loop-place.invariant.load
    ∙ ap (load c.args.limit.now) (each_brings c.args.g.now c.args.view.now c.args.own.now c.args.n)
