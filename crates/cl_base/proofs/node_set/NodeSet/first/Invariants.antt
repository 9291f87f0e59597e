use Rattle.std.proofs.Common.{◌≡◌}
use Rattle.cl_base.specs.Numbers.{first_numbers}
use Rattle.cl_base.proofs.node_set.NodeSet.first.Given as goal

abbrev pub invariant-loop-k : goal.invariant-loop-k
invariant-loop-k l = l.numbers ≡ first_numbers l.k
