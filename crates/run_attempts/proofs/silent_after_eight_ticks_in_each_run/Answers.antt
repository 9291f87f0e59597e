use Rattle.run_attempts.proofs.endings.Runs as proof
use Rattle.run_attempts.proofs.silent_after_eight_ticks_in_each_run.Goals as goal

pub returns : goal.returns
returns c = proof.silent_after_eight_ticks_in_each_run
