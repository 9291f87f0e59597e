use Rattle.run_history.proofs.Runs as proof
use Rattle.run_history.proofs.once_of_each_run.Goals as goal

pub returns : goal.returns
returns c = proof.once_of_each_run
