use Rattle.std.proofs.Common.{◌≡◌, ◌<◌, false, ℕ}
use Rattle.cl_base.specs.Sets.{has}
use Rattle.cl_base.proofs.number_set.NumberSet.least.Given as goal

abbrev pub invariant-loop-n : goal.invariant-loop-n
invariant-loop-n l = (m : ℕ) → m < l.n → has l.self m ≡ false
