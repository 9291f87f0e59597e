use Rattle.run_downs.proofs.Runs as proof
use Rattle.run_downs.proofs.stops_of_each_run.Goals as goal

pub returns : goal.returns
returns c = proof.stops_of_each_run
