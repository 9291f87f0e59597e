use Rattle.rgm_member.proofs.OrderLaws.{call_once, outcomes_stay}
use Rattle.rgm_member.proofs.laws.orders_call_once.Goals as goal

pub returns-clause-once : goal.returns-clause-once
returns-clause-once c = call_once

pub returns-clause-stay : goal.returns-clause-stay
returns-clause-stay c = outcomes_stay
