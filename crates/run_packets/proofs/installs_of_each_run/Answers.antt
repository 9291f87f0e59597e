use Rattle.run_packets.proofs.installs.Runs as proof
use Rattle.run_packets.proofs.installs_of_each_run.Goals as goal

pub returns : goal.returns
returns c = proof.installs_of_each_run
