use Rattle.run_outcomes.proofs.phases.Votes as proof
use Rattle.run_outcomes.proofs.votes_are_told_in_each_run.Goals as goal

pub returns : goal.returns
returns c = proof.votes_are_told
