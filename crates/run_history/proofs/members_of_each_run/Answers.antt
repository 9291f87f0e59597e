use Rattle.run_history.proofs.MemberScenes as proof
use Rattle.run_history.proofs.members_of_each_run.Goals as goal

pub returns : goal.returns
returns c = proof.members_of_each_run
