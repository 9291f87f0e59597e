use Rattle.run_devices.proofs.readings.Runs as proof
use Rattle.run_devices.proofs.attempts_hold_what_was_read.Goals as goal

pub returns : goal.returns
returns c = proof.attempts_hold_what_was_read
