use Rattle.run_commands.proofs.carried.Laws as proof
use Rattle.run_commands.proofs.updates_of_each_run.Goals as goal

pub returns : goal.returns
returns c = proof.updates_of_each_run
