use Rattle.run_outcomes.proofs.members.Told as proof
use Rattle.run_outcomes.proofs.stops_are_caused_in_each_run.Goals as goal

pub returns : goal.returns
returns c = proof.stops_are_caused c.attempts_begin_as_wanted.ensures
