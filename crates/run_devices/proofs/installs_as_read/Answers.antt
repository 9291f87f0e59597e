use Rattle.run_devices.proofs.readings.Installs as proof
use Rattle.run_devices.proofs.installs_as_read.Goals as goal

pub returns : goal.returns
returns c = proof.installs_as_read
