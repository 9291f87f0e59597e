use Rattle.run_commands.proofs.taken.Laws as proof
use Rattle.run_commands.proofs.commands_are_taken_in_each_run.Goals as goal

pub returns : goal.returns
returns c = proof.commands_are_taken_in_each_run
