use Rattle.run_packets.proofs.prepares.Runs as proof
use Rattle.run_packets.proofs.one_node_of_each_run.Goals as goal

pub returns : goal.returns
returns c = proof.one_node_of_each_run
