use Rattle.run_history.proofs.DeedRuns as proof
use Rattle.run_history.proofs.repository_of_each_run.Goals as goal

pub returns : goal.returns
returns c = proof.repository_of_each_run
