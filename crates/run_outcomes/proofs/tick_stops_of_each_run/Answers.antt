use Rattle.run_outcomes.proofs.stops.Runs as proof
use Rattle.run_outcomes.proofs.tick_stops_of_each_run.Goals as goal

pub returns : goal.returns
returns c = proof.tick_stops_of_each_run c.attempts_begin_as_wanted.ensures
