use Rattle.std.proofs.Common.{◌≡◌, ◌≤◌}
use Rattle.cl_base.specs.Sets.{count_to}
use Rattle.cl_base.proofs.number_set.NumberSet.count_to.Given as goal

abbrev pub invariant-loop-n : goal.invariant-loop-n
invariant-loop-n l = record { counted : l.count ≡ count_to l.self l.n; most : l.count ≤ l.n }
