use Rattle.decision_laws.proofs.Quiet.{quiet_goals_are_settled, quiet_has_no_calls}
use Rattle.decision_laws.proofs.laws.quiet_is_settled.Goals as goal

pub returns : goal.returns
returns c = record { calls = quiet_has_no_calls; goals = quiet_goals_are_settled c.what_is_chosen_is_an_order.ensures c.an_order_is_found.ensures }
