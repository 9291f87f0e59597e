use Rattle.device_ties.proofs.Registrations.{reads_own}
use Rattle.device_ties.proofs.keys_are_of_registered.Goals as goal

pub returns : goal.returns
returns c = λ cluster k rs own. reads_own cluster rs k own
