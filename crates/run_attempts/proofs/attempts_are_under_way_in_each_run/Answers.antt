use Rattle.run_attempts.proofs.endings.Runs as proof
use Rattle.run_attempts.proofs.attempts_are_under_way_in_each_run.Goals as goal

pub returns : goal.returns
returns c = proof.attempts_are_under_way_in_each_run
