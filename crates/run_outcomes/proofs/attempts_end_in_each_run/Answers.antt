use Rattle.run_outcomes.proofs.histories.Runs as proof
use Rattle.run_outcomes.proofs.attempts_end_in_each_run.Goals as goal

pub returns : goal.returns
returns c = proof.attempts_end_in_time
