use Rattle.run_lines.proofs.few.Runs as proof
use Rattle.run_lines.proofs.few_commands_in_each_run.Goals as goal

pub returns : goal.returns
returns c = proof.few_commands_in_each_run
