use Rattle.run_devices.proofs.installs.Runs as proof
use Rattle.run_devices.proofs.installs_tell_all_seizings.Goals as goal

pub returns : goal.returns
returns c = proof.installs_tell_all_seizings
