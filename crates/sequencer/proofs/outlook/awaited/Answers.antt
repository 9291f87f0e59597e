use Rattle.sequencer.proofs.Weak.{listed_more}
use Rattle.sequencer.proofs.outlook.awaited.Goals as goal

pub loop-place-preserved : goal.loop-place-preserved
loop-place-preserved c = listed_more (λ e. e.1.weak) c.args.g.now.resources c.loop-place.place c.loop-place.names.items c.weak_at-weak.result.now c.extend_from_slice.new.self.items
    c.in-Ok.ensures.items c.loop-place.invariant c.weak_at-weak.ensures
