use Rattle.run_devices.proofs.valid.Asked as proof
use Rattle.run_devices.proofs.seizers_are_asked.Goals as goal

pub returns : goal.returns
returns c = proof.seizers_are_asked
