use Rattle.std.proofs.Common.{◌∙◌, sym, arith}
use Rattle.sequencer.specs.Stopping.{is_held, is_holding}
use Rattle.placement.proofs.Scans.{any_stops, any_goes_on, any_over}
use Rattle.sequencer.proofs.stopping.is_held.Goals as goal

pub returns-then-is_holding_at : goal.returns-then-is_holding_at
unfolding is_held
returns-then-is_holding_at c = any_stops (is_holding c.args.g.now c.args.view.now c.args.members.now c.args.name.now c.args.n) c.args.g.now.resources c.loop-place.place c.is_holding_at.result c.loop-place.invariant c.is_holding_at.ensures c.if-is_holding_at.true

pub loop-place-preserved : goal.loop-place-preserved
loop-place-preserved c = any_goes_on (is_holding c.args.g.now c.args.view.now c.args.members.now c.args.name.now c.args.n) c.args.g.now.resources c.loop-place.place c.is_holding_at.result c.loop-place.invariant c.is_holding_at.ensures c.if-is_holding_at.false

pub returns : goal.returns
unfolding is_held
returns c = sym (sym c.loop-place.invariant ∙ any_over (is_holding c.args.g.now c.args.view.now c.args.members.now c.args.name.now c.args.n) c.args.g.now.resources c.loop-place.place (omega arith))
