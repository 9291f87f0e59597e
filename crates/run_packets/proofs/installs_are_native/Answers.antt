use Rattle.run_packets.proofs.admitted.Runs as proof
use Rattle.run_packets.proofs.installs_are_native.Goals as goal

pub returns : goal.returns
returns c = proof.installs_are_native
