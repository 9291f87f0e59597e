use Rattle.run_devices.proofs.queues.Histories as proof
use Rattle.run_devices.proofs.told_as_in_history.Goals as goal

pub returns : goal.returns
returns c = proof.told_as_in_history
