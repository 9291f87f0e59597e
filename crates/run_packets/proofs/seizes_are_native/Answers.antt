use Rattle.run_packets.proofs.native.Runs as proof
use Rattle.run_packets.proofs.seizes_are_native.Goals as goal

pub returns : goal.returns
returns c = proof.seizes_are_native
