use Rattle.run_packets.proofs.admitted.PrepareRuns as proof
use Rattle.run_packets.proofs.prepares_are_native.Goals as goal

pub returns : goal.returns
returns c = proof.prepares_are_native
