use Rattle.run_packets.proofs.admitted.Runs as proof
use Rattle.run_packets.proofs.promises_are_native.Goals as goal

pub returns : goal.returns
returns c = proof.promises_are_native
