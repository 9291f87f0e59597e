use Rattle.run_devices.proofs.validity.Runs as proof
use Rattle.run_devices.proofs.validity_of_each_run.Goals as goal

pub returns : goal.returns
returns c = proof.validity_of_each_run
