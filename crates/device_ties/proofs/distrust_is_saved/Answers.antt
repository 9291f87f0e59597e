use Rattle.device_ties.proofs.Others.{distrust_saved}
use Rattle.device_ties.proofs.distrust_is_saved.Goals as goal

pub returns : goal.returns
returns c = distrust_saved
