use Rattle.run_attempts.proofs.endings.Runs as proof
use Rattle.run_attempts.proofs.nodes_have_their_attempts_in_each_run.Goals as goal

pub returns : goal.returns
returns c = proof.nodes_have_their_attempts_in_each_run
