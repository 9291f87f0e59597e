use Rattle.run_outcomes.proofs.results.Runs as proof
use Rattle.run_outcomes.proofs.results_of_each_run.Goals as goal

pub returns : goal.returns
returns c = proof.results_of_each_run
