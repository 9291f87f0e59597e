use Rattle.refinement.proofs.node_widths.Lengths as proof
use Rattle.refinement.proofs.sent_messages_fit.Goals as goal

pub returns : goal.returns
returns c = proof.sent_messages_fit
