use Rattle.run_outcomes.proofs.shown.LastRuns as proof
use Rattle.run_outcomes.proofs.last_promises_show_what_is_valid_in_each_run.Goals as goal

pub returns : goal.returns
returns c = proof.last_shows_valid
