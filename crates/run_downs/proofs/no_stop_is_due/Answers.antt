use Rattle.run_downs.proofs.Runs as proof
use Rattle.run_downs.proofs.no_stop_is_due.Goals as goal

pub returns : goal.returns
returns c = proof.no_stop_is_due
