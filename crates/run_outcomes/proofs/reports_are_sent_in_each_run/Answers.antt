use Rattle.run_outcomes.proofs.members.Told as proof
use Rattle.run_outcomes.proofs.reports_are_sent_in_each_run.Goals as goal

pub returns : goal.returns
returns c = proof.reports_are_sent
