use Rattle.run_history.proofs.WholeEachRun as proof
use Rattle.run_history.proofs.repositories_are_kept.Goals as goal

pub returns : goal.returns
returns c = proof.repositories_are_kept
