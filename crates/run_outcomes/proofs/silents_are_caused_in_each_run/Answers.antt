use Rattle.run_outcomes.proofs.histories.Runs as proof
use Rattle.run_outcomes.proofs.silents_are_caused_in_each_run.Goals as goal

pub returns : goal.returns
returns c = proof.silents_are_caused
