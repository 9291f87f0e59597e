use Rattle.run_devices.proofs.validity.Runs as proof
use Rattle.run_devices.proofs.promises_show_validity_in_each_run.Goals as goal

pub returns : goal.returns
returns c = proof.promises_show_validity_in_each_run
