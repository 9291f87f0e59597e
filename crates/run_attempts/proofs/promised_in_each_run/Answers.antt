use Rattle.run_attempts.proofs.endings.Runs as proof
use Rattle.run_attempts.proofs.promised_in_each_run.Goals as goal

pub returns : goal.returns
returns c = proof.promised_in_each_run
