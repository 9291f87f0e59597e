use Rattle.run_outcomes.proofs.seized.Runs as proof
use Rattle.run_outcomes.proofs.seizeds_are_told_in_each_run.Goals as goal

pub returns : goal.returns
returns c = proof.seizeds_are_told
