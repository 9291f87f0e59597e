use Rattle.run_history.proofs.VoteRuns as proof
use Rattle.run_history.proofs.votes_of_each_run.Goals as goal

pub returns : goal.returns
returns c = proof.votes_of_each_run
