use Rattle.run_history.proofs.DevicesRun as proof
use Rattle.run_history.proofs.devices_of_each_run.Goals as goal

pub returns : goal.returns
returns c = proof.devices_of_each_run
