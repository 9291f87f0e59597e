use Rattle.run_lines.proofs.rounds.Runs as proof
use Rattle.run_lines.proofs.parts_of_each_run.Goals as goal

pub returns : goal.returns
returns c = proof.parts_of_each_run
