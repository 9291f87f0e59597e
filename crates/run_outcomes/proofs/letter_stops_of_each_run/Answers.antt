use Rattle.run_outcomes.proofs.saves.Runs as proof
use Rattle.run_outcomes.proofs.letter_stops_of_each_run.Goals as goal

pub returns : goal.returns
returns c = proof.letter_stops_of_each_run
