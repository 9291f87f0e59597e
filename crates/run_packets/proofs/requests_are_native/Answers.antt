use Rattle.run_packets.proofs.admitted.TextRuns as proof
use Rattle.run_packets.proofs.requests_are_native.Goals as goal

pub returns : goal.returns
returns c = proof.requests_are_native
