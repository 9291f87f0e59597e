use Rattle.refinement.proofs.EveryRun as proof
use Rattle.refinement.proofs.every_run_is_one.Goals as goal

pub returns : goal.returns
returns c = proof.every_run_is_one
