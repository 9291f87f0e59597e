use Rattle.std.proofs.Common.{◌∙◌, sym, arith}
use Rattle.placement.specs.Resources.{has_down, is_down_on}
use Rattle.placement.proofs.Scans.{any_stops, any_goes_on, any_over}
use Rattle.placement.proofs.resources.has_down.Goals as goal

pub returns-then-is_down_at : goal.returns-then-is_down_at
unfolding has_down
returns-then-is_down_at c = any_stops (is_down_on c.args.view.now c.args.group.now c.args.n) c.args.g.now.resources c.loop-place.place c.is_down_at.result c.loop-place.invariant c.is_down_at.ensures c.if-is_down_at.true

pub loop-place-preserved : goal.loop-place-preserved
loop-place-preserved c = any_goes_on (is_down_on c.args.view.now c.args.group.now c.args.n) c.args.g.now.resources c.loop-place.place c.is_down_at.result c.loop-place.invariant c.is_down_at.ensures c.if-is_down_at.false

pub returns : goal.returns
unfolding has_down
returns c = sym (sym c.loop-place.invariant ∙ any_over (is_down_on c.args.view.now c.args.group.now c.args.n) c.args.g.now.resources c.loop-place.place (omega arith))
