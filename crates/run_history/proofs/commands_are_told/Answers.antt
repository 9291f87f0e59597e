use Rattle.run_history.proofs.LineSteps as proof
use Rattle.run_history.proofs.commands_are_told.Goals as goal

pub returns : goal.returns
returns c = proof.commands_are_told
