use Rattle.std.proofs.Common.{◌≡◌}
use Rattle.cl_base.specs.Numbers.{numbers_to}
use Rattle.cl_base.proofs.numbers.numbers.Given as goal

abbrev pub invariant-loop-n : goal.invariant-loop-n
invariant-loop-n l = l.numbers.items ≡ numbers_to l.set l.n
