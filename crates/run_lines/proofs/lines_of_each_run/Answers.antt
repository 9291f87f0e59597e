use Rattle.run_lines.proofs.Runs as proof
use Rattle.run_lines.proofs.lines_of_each_run.Goals as goal

pub returns : goal.returns
returns c = proof.lines_of_each_run
