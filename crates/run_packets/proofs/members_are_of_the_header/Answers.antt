use Rattle.run_packets.proofs.native.Runs as proof
use Rattle.run_packets.proofs.members_are_of_the_header.Goals as goal

pub returns : goal.returns
returns c = proof.members_are_of_the_header
