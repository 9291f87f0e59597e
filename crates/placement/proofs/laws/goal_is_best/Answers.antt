use Rattle.placement.proofs.Reasons.{goal_best}
use Rattle.placement.proofs.laws.goal_is_best.Goals as goal

pub returns : goal.returns
returns c = goal_best
