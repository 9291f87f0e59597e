use Rattle.run_devices.proofs.readings.Runs as proof
use Rattle.run_devices.proofs.what_was_read_stays.Goals as goal

pub returns : goal.returns
returns c = proof.what_was_read_stays
