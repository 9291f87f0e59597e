use Rattle.std.proofs.Common.{◌∙◌, sym, arith}
use Rattle.sequencer.specs.Leaving.{has_going, goes_in}
use Rattle.placement.proofs.Scans.{any_stops, any_goes_on, any_over}
use Rattle.sequencer.proofs.leaving.has_going.Goals as goal

pub returns-then-goes_at : goal.returns-then-goes_at
unfolding has_going
returns-then-goes_at c = any_stops (goes_in c.args.going.now c.args.group.now c.args.n) c.args.g.now.resources c.loop-place.place c.goes_at.result c.loop-place.invariant c.goes_at.ensures c.if-goes_at.true

pub loop-place-preserved : goal.loop-place-preserved
loop-place-preserved c = any_goes_on (goes_in c.args.going.now c.args.group.now c.args.n) c.args.g.now.resources c.loop-place.place c.goes_at.result c.loop-place.invariant c.goes_at.ensures c.if-goes_at.false

pub returns : goal.returns
unfolding has_going
returns c = sym (sym c.loop-place.invariant ∙ any_over (goes_in c.args.going.now c.args.group.now c.args.n) c.args.g.now.resources c.loop-place.place (omega arith))
