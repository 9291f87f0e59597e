use Rattle.run_attempts.proofs.endings.Runs as proof
use Rattle.run_attempts.proofs.silent_in_ticks_of_each_run.Goals as goal

pub returns : goal.returns
returns c = proof.silent_in_ticks_of_each_run
