use Rattle.run_outcomes.proofs.histories.Runs as proof
use Rattle.run_outcomes.proofs.awaited_are_told_in_each_run.Goals as goal

pub returns : goal.returns
returns c = proof.awaited
