use Rattle.run_downs.proofs.Ruled as proof
use Rattle.run_downs.proofs.settled_stops_of_each_run.Goals as goal

pub returns : goal.returns
returns c = proof.settled_stops_of_each_run
