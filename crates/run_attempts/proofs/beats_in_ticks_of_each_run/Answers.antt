use Rattle.run_attempts.proofs.Runs as proof
use Rattle.run_attempts.proofs.beats_in_ticks_of_each_run.Goals as goal

pub returns : goal.returns
returns c = proof.beats_in_ticks_of_each_run
