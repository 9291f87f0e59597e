use Rattle.run_outcomes.proofs.exclusions.Runs as proof
use Rattle.run_outcomes.proofs.exclusions_of_each_run.Goals as goal

pub returns : goal.returns
returns c = proof.exclusions_of_each_run
