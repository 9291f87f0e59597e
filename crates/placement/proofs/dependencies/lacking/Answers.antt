use Rattle.std.proofs.Common.{◌∙◌, sym, arith}
use Rattle.placement.specs.Targets.{lacked_by, lacking}
use Rattle.placement.proofs.Scans.{first_stops, first_goes_on, first_over}
use Rattle.placement.proofs.dependencies.lacking.Goals as goal

pub returns-in-Some : goal.returns-in-Some
unfolding lacking
returns-in-Some c = first_stops (lacked_by c.args.g.now c.args.view.now c.args.name.now c.args.own.now c.args.n) c.args.g.now.resources c.loop-place.place c.lacked_at.result
    c.loop-place.invariant c.lacked_at.ensures c.in-Some.target c.in-Some.is

pub loop-place-preserved : goal.loop-place-preserved
loop-place-preserved c = first_goes_on (lacked_by c.args.g.now c.args.view.now c.args.name.now c.args.own.now c.args.n) c.args.g.now.resources c.loop-place.place c.lacked_at.result
    c.loop-place.invariant c.lacked_at.ensures c.in_default.is

pub returns : goal.returns
unfolding lacking
returns c = sym (sym c.loop-place.invariant
    ∙ first_over (lacked_by c.args.g.now c.args.view.now c.args.name.now c.args.own.now c.args.n) c.args.g.now.resources c.loop-place.place (omega arith))
