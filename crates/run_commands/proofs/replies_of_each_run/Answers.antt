use Rattle.run_commands.proofs.carried.Laws as proof
use Rattle.run_commands.proofs.replies_of_each_run.Goals as goal

pub returns : goal.returns
returns c = proof.replies_of_each_run
