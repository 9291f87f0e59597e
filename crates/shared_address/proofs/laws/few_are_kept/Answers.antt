use Rattle.shared_address.proofs.Sticks.{few_kept}
use Rattle.shared_address.proofs.laws.few_are_kept.Goals as goal

pub returns : goal.returns
returns c = few_kept
