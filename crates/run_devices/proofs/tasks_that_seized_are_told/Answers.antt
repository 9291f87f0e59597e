use Rattle.run_devices.proofs.readings.Runs as proof
use Rattle.run_devices.proofs.tasks_that_seized_are_told.Goals as goal

pub returns : goal.returns
returns c = proof.tasks_that_seized_are_told
