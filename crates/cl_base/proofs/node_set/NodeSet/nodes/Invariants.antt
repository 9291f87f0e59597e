use Rattle.std.proofs.Common.{◌≡◌}
use Rattle.cl_base.specs.Numbers.{numbers_to}
use Rattle.cl_base.proofs.node_set.NodeSet.nodes.Given as goal

abbrev pub invariant-loop-n : goal.invariant-loop-n
invariant-loop-n l = l.nodes.items ≡ numbers_to l.self l.n
