use Rattle.refinement.proofs.Lines as proof
use Rattle.refinement.proofs.world_runs_are_one.Goals as goal

pub returns : goal.returns
returns c = proof.world_runs_are_one
