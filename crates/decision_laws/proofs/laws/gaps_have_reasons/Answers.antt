use Rattle.decision_laws.proofs.Gaps.{gaps_have_reasons}
use Rattle.decision_laws.proofs.laws.gaps_have_reasons.Goals as goal

pub returns : goal.returns
returns c = record { reasons = gaps_have_reasons c.what_is_chosen_is_an_order.ensures c.an_order_is_found.ensures }
