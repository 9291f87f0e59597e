use Rattle.run_devices.proofs.queues.Runs as proof
use Rattle.run_devices.proofs.queues_of_each_run.Goals as goal

pub returns : goal.returns
returns c = proof.queues_of_each_run
