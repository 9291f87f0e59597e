use Rattle.run_devices.proofs.valid.Runs as proof
use Rattle.run_devices.proofs.one_seizer_in_each_run.Goals as goal

pub returns : goal.returns
returns c = proof.one_seizer_in_each_run
