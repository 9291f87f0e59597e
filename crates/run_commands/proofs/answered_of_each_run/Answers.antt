use Rattle.run_commands.proofs.acknowledged.Answered as proof
use Rattle.run_commands.proofs.answered_of_each_run.Goals as goal

pub returns : goal.returns
returns c = proof.answered_of_each_run
