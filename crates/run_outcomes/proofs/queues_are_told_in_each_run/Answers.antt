use Rattle.run_outcomes.proofs.members.Told as proof
use Rattle.run_outcomes.proofs.queues_are_told_in_each_run.Goals as goal

pub returns : goal.returns
returns c = proof.queues_are_told
