use Rattle.run_outcomes.proofs.results.Runs as proof
use Rattle.run_outcomes.proofs.accounts_of_each_run.Goals as goal

pub returns : goal.returns
returns c = proof.all_accounted_in_each_run
