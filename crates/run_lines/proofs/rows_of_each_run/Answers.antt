use Rattle.run_lines.proofs.few.Runs as proof
use Rattle.run_lines.proofs.rows_of_each_run.Goals as goal

pub returns : goal.returns
returns c = proof.rows_of_each_run
