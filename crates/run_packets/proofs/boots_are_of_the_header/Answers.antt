use Rattle.run_packets.proofs.native.Boots as proof
use Rattle.run_packets.proofs.boots_are_of_the_header.Goals as goal

pub returns : goal.returns
returns c = proof.boots_are_of_the_header
