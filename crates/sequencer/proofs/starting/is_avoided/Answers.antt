use Rattle.std.proofs.Common.{◌∙◌, sym, arith}
use Rattle.sequencer.specs.Starting.{is_avoided, avoids_up}
use Rattle.placement.proofs.Scans.{any_stops, any_goes_on, any_over}
use Rattle.sequencer.proofs.starting.is_avoided.Goals as goal

pub returns-then-avoids_at : goal.returns-then-avoids_at
unfolding is_avoided
returns-then-avoids_at c = any_stops (avoids_up c.args.g.now c.args.view.now c.args.group.now c.args.n) c.args.g.now.groups c.loop-place.place c.avoids_at.result c.loop-place.invariant c.avoids_at.ensures c.if-avoids_at.true

pub loop-place-preserved : goal.loop-place-preserved
loop-place-preserved c = any_goes_on (avoids_up c.args.g.now c.args.view.now c.args.group.now c.args.n) c.args.g.now.groups c.loop-place.place c.avoids_at.result c.loop-place.invariant c.avoids_at.ensures c.if-avoids_at.false

pub returns : goal.returns
unfolding is_avoided
returns c = sym (sym c.loop-place.invariant ∙ any_over (avoids_up c.args.g.now c.args.view.now c.args.group.now c.args.n) c.args.g.now.groups c.loop-place.place (omega arith))
