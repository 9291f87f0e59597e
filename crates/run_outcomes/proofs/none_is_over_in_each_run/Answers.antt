use Rattle.run_outcomes.proofs.phases.LiveRuns as proof
use Rattle.run_outcomes.proofs.none_is_over_in_each_run.Goals as goal

pub returns : goal.returns
returns c = proof.none_is_over
