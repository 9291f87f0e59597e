use Rattle.placement.proofs.Within.{within_limits}
use Rattle.placement.proofs.laws.placed_within_limits.Goals as goal

pub returns : goal.returns
returns c = within_limits
