use Rattle.group_samples.proofs.Allowed as allowed
use Rattle.group_samples.proofs.refusals.allowed_calls_that_may_be.Goals as goal

pub returns-clause-after_its_dependency : goal.returns-clause-after_its_dependency
returns-clause-after_its_dependency c = allowed.after_its_dependency

pub returns-clause-away : goal.returns-clause-away
returns-clause-away c = allowed.away
