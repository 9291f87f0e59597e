use Rattle.run_messages.proofs.Runs as proof
use Rattle.run_messages.proofs.memberships_of_each_run.Goals as goal

pub returns : goal.returns
returns c = proof.memberships_of_each_run
