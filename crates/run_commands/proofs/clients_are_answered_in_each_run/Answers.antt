use Rattle.run_commands.proofs.taken.Laws as proof
use Rattle.run_commands.proofs.clients_are_answered_in_each_run.Goals as goal

pub returns : goal.returns
returns c = proof.clients_are_answered_in_each_run
