use Rattle.run_devices.proofs.readings.Runs as proof
use Rattle.run_devices.proofs.seizeds_say_what_was_read.Goals as goal

pub returns : goal.returns
returns c = proof.seizeds_say_what_was_read
