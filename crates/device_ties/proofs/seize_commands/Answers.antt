use Rattle.device_ties.proofs.Others as others
use Rattle.device_ties.proofs.seize_commands.Goals as goal

pub returns : goal.returns
returns c = others.seize_commands
