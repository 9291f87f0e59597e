use Rattle.run_packets.proofs.admitted.Whole as proof
use Rattle.run_packets.proofs.attempts_are_of_the_header.Goals as goal

pub returns : goal.returns
returns c = proof.attempts_are_of_the_header
