-- The answer to the obligation of `paths_of_each_run`.
use Rattle.run_outcomes.proofs.results.Pathed as proof
use Rattle.run_outcomes.proofs.paths_of_each_run.Goals as goal

pub returns : goal.returns
returns c = proof.paths_of_each_run
