use Rattle.run_history.proofs.DeedRuns as proof
use Rattle.run_history.proofs.events_of_each_run.Goals as goal

pub returns : goal.returns
returns c = proof.events_of_each_run
