use Rattle.run_history.proofs.DeedRuns as proof
use Rattle.run_history.proofs.placed_in_each_run.Goals as goal

pub returns : goal.returns
returns c = proof.placed_in_each_run
