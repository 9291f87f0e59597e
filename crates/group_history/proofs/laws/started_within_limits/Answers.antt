use Rattle.group_history.proofs.Within.{of_call}
use Rattle.group_history.specs.AllowedCalls.{situation_of}
use Rattle.group_history.proofs.laws.started_within_limits.Goals as goal

pub returns : goal.returns
returns c S e n r before allowed = of_call (situation_of S e before) n r allowed
