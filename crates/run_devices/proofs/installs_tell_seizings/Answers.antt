use Rattle.run_devices.proofs.valid.Told as proof
use Rattle.run_devices.proofs.installs_tell_seizings.Goals as goal

pub returns : goal.returns
returns c = proof.installs_tell_seizings
