use Rattle.device_ties.proofs.Others.{good_write_taken}
use Rattle.device_ties.proofs.good_write_is_taken.Goals as goal

pub returns : goal.returns
returns c = good_write_taken
