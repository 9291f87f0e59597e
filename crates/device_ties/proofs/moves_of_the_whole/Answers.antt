use Rattle.device_ties.proofs.Wholes as wholes
use Rattle.device_ties.proofs.moves_of_the_whole.Goals as goal

pub returns : goal.returns
returns c = wholes.moves_of_the_whole
