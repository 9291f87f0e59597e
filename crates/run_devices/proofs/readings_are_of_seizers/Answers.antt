use Rattle.run_devices.proofs.readings.Runs as proof
use Rattle.run_devices.proofs.readings_are_of_seizers.Goals as goal

pub returns : goal.returns
returns c = proof.readings_are_of_seizers
