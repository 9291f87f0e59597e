use Rattle.device_ties.proofs.Others.{again}
use Rattle.device_ties.proofs.registered_again.Goals as goal

pub returns : goal.returns
returns c = again
