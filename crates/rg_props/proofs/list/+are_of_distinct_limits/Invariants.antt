use Rattle.std.proofs.Common.{length}
use Rattle.rg_props.proofs.list.+are_of_distinct_limits.Given as goal

abbrev pub decreases-are_of_distinct_limits : goal.decreases-are_of_distinct_limits
decreases-are_of_distinct_limits l = length l.factors.now
