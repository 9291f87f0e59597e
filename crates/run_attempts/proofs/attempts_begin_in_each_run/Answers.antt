use Rattle.run_attempts.proofs.Runs as proof
use Rattle.run_attempts.proofs.attempts_begin_in_each_run.Goals as goal

pub returns : goal.returns
returns c = proof.attempts_begin_in_each_run
