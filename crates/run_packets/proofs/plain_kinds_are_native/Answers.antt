use Rattle.run_packets.proofs.native.Runs as proof
use Rattle.run_packets.proofs.plain_kinds_are_native.Goals as goal

pub returns : goal.returns
returns c = proof.plain_kinds_are_native
