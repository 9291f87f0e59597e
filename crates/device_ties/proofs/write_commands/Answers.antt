use Rattle.device_ties.proofs.Others as others
use Rattle.device_ties.proofs.write_commands.Goals as goal

pub returns : goal.returns
returns c = others.write_commands
