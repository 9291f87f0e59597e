use Rattle.order_laws.proofs.Targets.{targets_are_there}
use Rattle.order_laws.proofs.laws.what_is_needed_is_there.Goals as goal

pub returns : goal.returns
returns c = record { targets = targets_are_there }
