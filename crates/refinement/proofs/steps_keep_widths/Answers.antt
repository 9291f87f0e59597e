use Rattle.refinement.proofs.node_widths.Handlers as proof
use Rattle.refinement.proofs.steps_keep_widths.Goals as goal

pub returns : goal.returns
returns c = proof.steps_keep_widths
