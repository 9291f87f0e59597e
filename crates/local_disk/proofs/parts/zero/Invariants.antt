use Rattle.local_disk.proofs.Zeros.{ZeroedTo}
use Rattle.local_disk.proofs.parts.zero.Given as goal

abbrev pub invariant-loop-i : goal.invariant-loop-i
invariant-loop-i l = ZeroedTo l.marks l.fn.bytes l.i l.bytes
