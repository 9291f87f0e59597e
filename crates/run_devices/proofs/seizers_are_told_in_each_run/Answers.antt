use Rattle.run_devices.proofs.valid.Told as proof
use Rattle.run_devices.proofs.seizers_are_told_in_each_run.Goals as goal

pub returns : goal.returns
returns c = proof.seizers_are_told_in_each_run
