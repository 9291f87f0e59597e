use Rattle.run_history.proofs.DeedRuns as proof
use Rattle.run_history.proofs.no_base_is_due.Goals as goal

pub returns : goal.returns
returns c = proof.no_base_is_due
