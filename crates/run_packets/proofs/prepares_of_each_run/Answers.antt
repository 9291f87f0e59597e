use Rattle.run_packets.proofs.prepares.Runs as proof
use Rattle.run_packets.proofs.prepares_of_each_run.Goals as goal

pub returns : goal.returns
returns c = proof.prepares_of_each_run
