use Rattle.device_ties.proofs.Readings.{all_members}
use Rattle.device_ties.proofs.reading_shows_all.Goals as goal

pub returns : goal.returns
returns c = all_members
