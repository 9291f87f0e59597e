use Rattle.run_history.proofs.Runs as proof
use Rattle.run_history.proofs.ready_of_each_run.Goals as goal

pub returns : goal.returns
returns c = proof.ready_of_each_run
