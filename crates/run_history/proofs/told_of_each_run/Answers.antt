use Rattle.run_history.proofs.Runs as proof
use Rattle.run_history.proofs.told_of_each_run.Goals as goal

pub returns : goal.returns
returns c = proof.told_of_each_run
