use Rattle.run_outcomes.proofs.members.Told as proof
use Rattle.run_outcomes.proofs.lines_are_answered_in_each_run.Goals as goal

pub returns : goal.returns
returns c = proof.lines_are_answered
