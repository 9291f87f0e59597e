use Rattle.std.proofs.Common.{◌∙◌, sym, arith}
use Rattle.sequencer.specs.Resting.{has_one, is_one_in}
use Rattle.placement.proofs.Scans.{any_stops, any_goes_on, any_over}
use Rattle.sequencer.proofs.resting.has_one.Goals as goal

pub returns-then-is_one_at : goal.returns-then-is_one_at
unfolding has_one
returns-then-is_one_at c = any_stops (is_one_in c.args.names.now c.args.group.now) c.args.g.now.resources c.loop-place.place c.is_one_at.result c.loop-place.invariant c.is_one_at.ensures c.if-is_one_at.true

pub loop-place-preserved : goal.loop-place-preserved
loop-place-preserved c = any_goes_on (is_one_in c.args.names.now c.args.group.now) c.args.g.now.resources c.loop-place.place c.is_one_at.result c.loop-place.invariant c.is_one_at.ensures c.if-is_one_at.false

pub returns : goal.returns
unfolding has_one
returns c = sym (sym c.loop-place.invariant ∙ any_over (is_one_in c.args.names.now c.args.group.now) c.args.g.now.resources c.loop-place.place (omega arith))
