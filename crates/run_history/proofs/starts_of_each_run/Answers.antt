use Rattle.run_history.proofs.StartRuns as proof
use Rattle.run_history.proofs.starts_of_each_run.Goals as goal

pub returns : goal.returns
returns c = proof.starts_of_each_run
