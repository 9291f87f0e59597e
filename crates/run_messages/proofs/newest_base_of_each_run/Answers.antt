use Rattle.run_messages.proofs.records.Runs as proof
use Rattle.run_messages.proofs.newest_base_of_each_run.Goals as goal

pub returns : goal.returns
returns c = proof.newest_base_of_each_run
