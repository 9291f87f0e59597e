use Rattle.device_ties.proofs.Others as others
use Rattle.device_ties.proofs.session_steps.Goals as goal

pub returns : goal.returns
returns c = others.session_steps
