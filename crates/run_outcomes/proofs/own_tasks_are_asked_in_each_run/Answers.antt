use Rattle.run_outcomes.proofs.own_tasks.Runs as proof
use Rattle.run_outcomes.proofs.own_tasks_are_asked_in_each_run.Goals as goal

pub returns : goal.returns
returns c = proof.own_tasks_are_asked
