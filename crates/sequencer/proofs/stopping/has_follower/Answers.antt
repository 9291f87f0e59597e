use Rattle.std.proofs.Common.{◌∙◌, sym, arith}
use Rattle.sequencer.specs.Stopping.{has_follower, follows_up}
use Rattle.placement.proofs.Scans.{any_stops, any_goes_on, any_over}
use Rattle.sequencer.proofs.stopping.has_follower.Goals as goal

pub returns-then-follows_at : goal.returns-then-follows_at
unfolding has_follower
returns-then-follows_at c = any_stops (follows_up c.args.g.now c.args.view.now c.args.group.now c.args.n) c.args.g.now.groups c.loop-place.place c.follows_at.result c.loop-place.invariant c.follows_at.ensures c.if-follows_at.true

pub loop-place-preserved : goal.loop-place-preserved
loop-place-preserved c = any_goes_on (follows_up c.args.g.now c.args.view.now c.args.group.now c.args.n) c.args.g.now.groups c.loop-place.place c.follows_at.result c.loop-place.invariant c.follows_at.ensures c.if-follows_at.false

pub returns : goal.returns
unfolding has_follower
returns c = sym (sym c.loop-place.invariant ∙ any_over (follows_up c.args.g.now c.args.view.now c.args.group.now c.args.n) c.args.g.now.groups c.loop-place.place (omega arith))
