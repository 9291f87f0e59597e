use Rattle.run_outcomes.proofs.histories.Runs as proof
use Rattle.run_outcomes.proofs.histories_of_each_run.Goals as goal

pub returns : goal.returns
returns c = proof.histories_of_each_run c.attempts_begin_as_wanted.ensures
