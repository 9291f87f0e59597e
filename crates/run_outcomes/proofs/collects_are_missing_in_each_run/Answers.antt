use Rattle.run_outcomes.proofs.silence.Told as proof
use Rattle.run_outcomes.proofs.collects_are_missing_in_each_run.Goals as goal

pub returns : goal.returns
returns c = proof.collects_are_missing
