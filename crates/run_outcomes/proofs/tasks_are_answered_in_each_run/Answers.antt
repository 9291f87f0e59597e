use Rattle.run_outcomes.proofs.members.Told as proof
use Rattle.run_outcomes.proofs.tasks_are_answered_in_each_run.Goals as goal

pub returns : goal.returns
returns c = proof.tasks_are_answered
