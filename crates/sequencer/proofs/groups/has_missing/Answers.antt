use Rattle.std.proofs.Common.{◌∙◌, sym, arith}
use Rattle.sequencer.specs.Standing.{has_missing, is_missing_in}
use Rattle.placement.proofs.Scans.{any_stops, any_goes_on, any_over}
use Rattle.sequencer.proofs.groups.has_missing.Goals as goal

pub returns-then-is_missing_at : goal.returns-then-is_missing_at
unfolding has_missing
returns-then-is_missing_at c = any_stops (is_missing_in c.args.view.now c.args.group.now c.args.n) c.args.g.now.resources c.loop-place.place c.is_missing_at.result c.loop-place.invariant c.is_missing_at.ensures c.if-is_missing_at.true

pub loop-place-preserved : goal.loop-place-preserved
loop-place-preserved c = any_goes_on (is_missing_in c.args.view.now c.args.group.now c.args.n) c.args.g.now.resources c.loop-place.place c.is_missing_at.result c.loop-place.invariant c.is_missing_at.ensures c.if-is_missing_at.false

pub returns : goal.returns
unfolding has_missing
returns c = sym (sym c.loop-place.invariant ∙ any_over (is_missing_in c.args.view.now c.args.group.now c.args.n) c.args.g.now.resources c.loop-place.place (omega arith))
