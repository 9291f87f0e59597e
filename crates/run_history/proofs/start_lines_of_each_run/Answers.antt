use Rattle.run_history.proofs.DeedRuns as proof
use Rattle.run_history.proofs.start_lines_of_each_run.Goals as goal

pub returns : goal.returns
returns c = proof.start_lines_of_each_run
