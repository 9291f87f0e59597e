use Rattle.run_attempts.proofs.endings.Runs as proof
use Rattle.run_attempts.proofs.ends_name_members_in_each_run.Goals as goal

pub returns : goal.returns
returns c = proof.ends_name_members_in_each_run
