use Rattle.run_attempts.proofs.endings.Runs as proof
use Rattle.run_attempts.proofs.superseded_in_each_run.Goals as goal

pub returns : goal.returns
returns c = proof.superseded_in_each_run
