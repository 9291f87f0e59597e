use Rattle.run_commands.proofs.Laws as proof
use Rattle.run_commands.proofs.commands_are_numbered_in_each_run.Goals as goal

pub returns : goal.returns
returns c = proof.commands_are_numbered_in_each_run
