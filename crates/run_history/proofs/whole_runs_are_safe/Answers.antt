use Rattle.run_history.proofs.WholeEachRun as proof
use Rattle.run_history.proofs.whole_runs_are_safe.Goals as goal

pub returns : goal.returns
returns c = proof.whole_runs_are_safe
