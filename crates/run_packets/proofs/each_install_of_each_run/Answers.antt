use Rattle.run_packets.proofs.installs.Sound as proof
use Rattle.run_packets.proofs.each_install_of_each_run.Goals as goal

pub returns : goal.returns
returns c = proof.each_install_of_each_run
