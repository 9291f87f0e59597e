use Rattle.run_downs.proofs.Runs as proof
use Rattle.run_downs.proofs.fences_of_each_run.Goals as goal

pub returns : goal.returns
returns c = proof.fences_of_each_run
