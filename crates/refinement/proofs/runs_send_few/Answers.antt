use Rattle.refinement.proofs.Sends as proof
use Rattle.refinement.proofs.runs_send_few.Goals as goal

pub returns : goal.returns
returns c = proof.runs_send_few
