use Rattle.run_outcomes.proofs.phases.Idle as proof
use Rattle.run_outcomes.proofs.collectors_have_nothing_due_in_each_run.Goals as goal

pub returns : goal.returns
returns c = proof.collectors_have_nothing_due
