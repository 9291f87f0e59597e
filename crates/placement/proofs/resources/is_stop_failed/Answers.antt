use Rattle.std.proofs.Common.{◌∙◌, sym, arith}
use Rattle.placement.specs.Resources.{is_stop_failed, is_stop_mark}
use Rattle.placement.proofs.Scans.{any_stops, any_goes_on, any_over}
use Rattle.placement.proofs.resources.is_stop_failed.Goals as goal

pub returns-then-is_marked_at : goal.returns-then-is_marked_at
unfolding is_stop_failed
returns-then-is_marked_at c = record { value = any_stops (is_stop_mark c.args.g.now c.args.view.now c.args.group.now) c.args.view.now.resources c.loop-place.place c.is_marked_at.result c.loop-place.invariant c.is_marked_at.ensures c.if-is_marked_at.true }

pub loop-place-preserved : goal.loop-place-preserved
loop-place-preserved c = any_goes_on (is_stop_mark c.args.g.now c.args.view.now c.args.group.now) c.args.view.now.resources c.loop-place.place c.is_marked_at.result c.loop-place.invariant c.is_marked_at.ensures c.if-is_marked_at.false

pub returns : goal.returns
unfolding is_stop_failed
returns c = record { value = sym (sym c.loop-place.invariant ∙ any_over (is_stop_mark c.args.g.now c.args.view.now c.args.group.now) c.args.view.now.resources c.loop-place.place (omega arith)) }
