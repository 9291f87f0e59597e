use Rattle.run_downs.proofs.Runs as proof
use Rattle.run_downs.proofs.stops_come_in_each_run.Goals as goal

pub returns : goal.returns
returns c = proof.stops_come_in_each_run
