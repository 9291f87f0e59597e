use Rattle.run_outcomes.proofs.silence.Told as proof
use Rattle.run_outcomes.proofs.lacks_are_missing_in_each_run.Goals as goal

pub returns : goal.returns
returns c = proof.lacks_are_missing
