use Rattle.run_history.proofs.Runs as proof
use Rattle.run_history.proofs.installed_of_each_run.Goals as goal

pub returns : goal.returns
returns c = proof.installed_of_each_run
