use Rattle.refinement.proofs.WorldSends as proof
use Rattle.refinement.proofs.worlds_send_few.Goals as goal

pub returns : goal.returns
returns c = proof.worlds_send_few
