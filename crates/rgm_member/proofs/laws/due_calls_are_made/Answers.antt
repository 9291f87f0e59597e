use Rattle.rgm_member.proofs.OrderLaws.{due_is_called, due_once}
use Rattle.rgm_member.proofs.laws.due_calls_are_made.Goals as goal

pub returns-clause-called : goal.returns-clause-called
returns-clause-called c = due_is_called

pub returns-clause-once : goal.returns-clause-once
returns-clause-once c = due_once
