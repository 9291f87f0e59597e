use Rattle.run_commands.proofs.Laws as proof
use Rattle.run_commands.proofs.answers_once_in_each_run.Goals as goal

pub returns : goal.returns
returns c = proof.answers_once_in_each_run
