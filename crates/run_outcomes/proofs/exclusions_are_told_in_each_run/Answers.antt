use Rattle.run_outcomes.proofs.panics.Runs as proof
use Rattle.run_outcomes.proofs.exclusions_are_told_in_each_run.Goals as goal

pub returns : goal.returns
returns c = proof.exclusions_are_told_in_each_run
