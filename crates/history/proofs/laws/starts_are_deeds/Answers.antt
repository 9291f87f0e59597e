use Rattle.history.proofs.Complete.{starts_are_deeds}
use Rattle.history.proofs.laws.starts_are_deeds.Goals as goal

pub returns : goal.returns
returns c = starts_are_deeds
