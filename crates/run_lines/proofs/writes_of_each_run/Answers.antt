use Rattle.run_lines.proofs.writes.Runs as proof
use Rattle.run_lines.proofs.writes_of_each_run.Goals as goal

pub returns : goal.returns
returns c = proof.writes_of_each_run
