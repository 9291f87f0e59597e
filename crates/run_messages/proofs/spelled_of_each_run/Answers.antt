use Rattle.run_messages.proofs.Spelling as proof
use Rattle.run_messages.proofs.spelled_of_each_run.Goals as goal

pub returns : goal.returns
returns c = proof.spelled_of_each_run
