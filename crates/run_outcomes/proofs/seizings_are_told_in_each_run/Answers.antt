use Rattle.run_outcomes.proofs.phases.Seizes as proof
use Rattle.run_outcomes.proofs.seizings_are_told_in_each_run.Goals as goal

pub returns : goal.returns
returns c = proof.seizings_are_told
