use Rattle.run_outcomes.proofs.members.Told as proof
use Rattle.run_outcomes.proofs.no_round_is_left_in_each_run.Goals as goal

pub returns : goal.returns
returns c = proof.no_round_is_left
