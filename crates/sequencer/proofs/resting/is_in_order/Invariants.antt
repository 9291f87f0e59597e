use Rattle.std.proofs.Common.{◌≡◌, length}
use Rattle.sequencer.specs.Resting.{is_in_order}
use Rattle.sequencer.proofs.resting.is_in_order.Given as goal

abbrev pub invariant-loop-left : goal.invariant-loop-left
invariant-loop-left l = is_in_order l.g l.left ≡ is_in_order l.g l.order

abbrev pub decreases-loop-left : goal.decreases-loop-left
decreases-loop-left l = length l.left
