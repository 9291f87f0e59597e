use Rattle.run_history.proofs.WholeEachRun as proof
use Rattle.run_history.proofs.runs_are_whole.Goals as goal

pub returns : goal.returns
returns c = proof.runs_are_whole
