use Rattle.decision_laws.proofs.Limited.{decided_within_limits}
use Rattle.decision_laws.proofs.laws.goals_are_within_limits.Goals as goal

pub returns : goal.returns
returns c = record { limits = decided_within_limits c.what_is_chosen_is_an_order.ensures c.an_order_is_found.ensures }
