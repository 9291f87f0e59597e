use Rattle.run_commands.proofs.acknowledged.Laws as proof
use Rattle.run_commands.proofs.asked_of_each_run.Goals as goal

pub returns : goal.returns
returns c = proof.asked_of_each_run
