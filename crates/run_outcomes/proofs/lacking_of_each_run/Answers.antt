use Rattle.run_outcomes.proofs.counts.Runs as proof
use Rattle.run_outcomes.proofs.lacking_of_each_run.Goals as goal

pub returns : goal.returns
returns c = proof.lacking_of_each_run
