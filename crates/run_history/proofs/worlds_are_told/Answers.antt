use Rattle.run_history.proofs.Told as proof
use Rattle.run_history.proofs.worlds_are_told.Goals as goal

pub returns : goal.returns
returns c = proof.worlds_are_told
