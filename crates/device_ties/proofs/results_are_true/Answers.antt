use Rattle.device_ties.proofs.Ties.{results_true}
use Rattle.device_ties.proofs.results_are_true.Goals as goal

pub returns : goal.returns
returns c = results_true
