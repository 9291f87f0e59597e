use Rattle.run_packets.proofs.admitted.Runs as proof
use Rattle.run_packets.proofs.readies_are_native.Goals as goal

pub returns : goal.returns
returns c = proof.readies_are_native
