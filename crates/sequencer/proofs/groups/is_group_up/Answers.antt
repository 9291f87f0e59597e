use Rattle.std.proofs.Common.{◌∙◌, sym, arith}
use Rattle.sequencer.specs.Standing.{is_group_up, is_up_in}
use Rattle.placement.proofs.Scans.{any_stops, any_goes_on, any_over}
use Rattle.sequencer.proofs.groups.is_group_up.Goals as goal

pub returns-then-is_up_at : goal.returns-then-is_up_at
unfolding is_group_up
returns-then-is_up_at c = any_stops (is_up_in c.args.view.now c.args.group.now c.args.n) c.args.g.now.resources c.loop-place.place c.is_up_at.result c.loop-place.invariant c.is_up_at.ensures c.if-is_up_at.true

pub loop-place-preserved : goal.loop-place-preserved
loop-place-preserved c = any_goes_on (is_up_in c.args.view.now c.args.group.now c.args.n) c.args.g.now.resources c.loop-place.place c.is_up_at.result c.loop-place.invariant c.is_up_at.ensures c.if-is_up_at.false

pub returns : goal.returns
unfolding is_group_up
returns c = sym (sym c.loop-place.invariant ∙ any_over (is_up_in c.args.view.now c.args.group.now c.args.n) c.args.g.now.resources c.loop-place.place (omega arith))
