use Rattle.std.proofs.Common.{◌≡◌}
use Rattle.message_tests.proofs.links.pushes_out.Given as goal

abbrev pub invariant-loop-number : goal.invariant-loop-number
invariant-loop-number g l = l.net.next ≡ l.number
