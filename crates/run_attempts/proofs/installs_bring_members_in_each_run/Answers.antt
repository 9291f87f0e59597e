use Rattle.run_attempts.proofs.Runs as proof
use Rattle.run_attempts.proofs.installs_bring_members_in_each_run.Goals as goal

pub returns : goal.returns
returns c = proof.installs_bring_members_in_each_run
