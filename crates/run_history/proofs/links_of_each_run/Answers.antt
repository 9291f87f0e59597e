use Rattle.run_history.proofs.LinksRun as proof
use Rattle.run_history.proofs.links_of_each_run.Goals as goal

pub returns : goal.returns
returns c = proof.links_of_each_run
