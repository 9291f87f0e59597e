use Rattle.run_commands.proofs.Laws as proof
use Rattle.run_commands.proofs.own_answers_fit_in_each_run.Goals as goal

pub returns : goal.returns
returns c = proof.own_answers_fit_in_each_run
