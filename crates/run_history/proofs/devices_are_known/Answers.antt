use Rattle.run_history.proofs.LineSteps as proof
use Rattle.run_history.proofs.devices_are_known.Goals as goal

pub returns : goal.returns
returns c = proof.devices_are_known
