use Rattle.run_downs.proofs.Runs as proof
use Rattle.run_downs.proofs.boots_of_each_run.Goals as goal

pub returns : goal.returns
returns c = proof.boots_of_each_run
