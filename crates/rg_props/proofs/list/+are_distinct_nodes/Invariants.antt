use Rattle.std.proofs.Common.{length}
use Rattle.rg_props.proofs.list.+are_distinct_nodes.Given as goal

abbrev pub decreases-are_distinct_nodes : goal.decreases-are_distinct_nodes
decreases-are_distinct_nodes l = length l.nodes.now
