use Rattle.decision_laws.proofs.Membership.{safe_throughout}
use Rattle.decision_laws.proofs.laws.orders_are_safe_throughout.Goals as goal

pub returns : goal.returns
returns c = record { safe = safe_throughout }
