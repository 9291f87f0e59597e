use Rattle.run_outcomes.proofs.shown.Asked as proof
use Rattle.run_outcomes.proofs.asked_may_seize_in_each_run.Goals as goal

pub returns : goal.returns
returns c = proof.asked_may_seize
