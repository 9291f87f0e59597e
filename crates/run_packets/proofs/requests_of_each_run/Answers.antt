use Rattle.run_packets.proofs.waiting.Runs as proof
use Rattle.run_packets.proofs.requests_of_each_run.Goals as goal

pub returns : goal.returns
returns c = proof.requests_of_each_run
