use Rattle.group_samples.proofs.Limits.{both, too_heavy}
use Rattle.group_samples.proofs.refusals.placed_within_limits.Goals as goal

pub returns-clause-both : goal.returns-clause-both
returns-clause-both c = both

pub returns-clause-too_heavy : goal.returns-clause-too_heavy
returns-clause-too_heavy c = too_heavy
