use Rattle.run_outcomes.proofs.shown.Told as proof
use Rattle.run_outcomes.proofs.shows_are_told_in_each_run.Goals as goal

pub returns : goal.returns
returns c = proof.shows_are_told
