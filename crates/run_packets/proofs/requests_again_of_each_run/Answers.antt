use Rattle.run_packets.proofs.again.Runs as proof
use Rattle.run_packets.proofs.requests_again_of_each_run.Goals as goal

pub returns : goal.returns
returns c = proof.requests_again_of_each_run
