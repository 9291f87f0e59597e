use Rattle.run_outcomes.proofs.Traces as proof
use Rattle.run_outcomes.proofs.traces_of_each_run.Goals as goal

pub returns : goal.returns
returns c = proof.traces_of_each_run c.attempts_begin_as_wanted.ensures c.none_is_foreign_in_each_run.ensures
