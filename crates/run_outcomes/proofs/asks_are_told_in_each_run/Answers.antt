use Rattle.run_outcomes.proofs.asks.Runs as proof
use Rattle.run_outcomes.proofs.asks_are_told_in_each_run.Goals as goal

pub returns : goal.returns
returns c = proof.asks_are_told
