use Rattle.device_ties.proofs.Ties.{stays_at}
use Rattle.device_ties.proofs.others_stay.Goals as goal

pub returns : goal.returns
returns c = stays_at
