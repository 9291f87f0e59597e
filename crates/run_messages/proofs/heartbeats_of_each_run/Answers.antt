use Rattle.run_messages.proofs.Runs as proof
use Rattle.run_messages.proofs.heartbeats_of_each_run.Goals as goal

pub returns : goal.returns
returns c = proof.heartbeats_of_each_run
