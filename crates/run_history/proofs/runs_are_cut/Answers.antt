use Rattle.run_history.proofs.DeedRuns as proof
use Rattle.run_history.proofs.runs_are_cut.Goals as goal

pub returns : goal.returns
returns c = proof.runs_are_cut
