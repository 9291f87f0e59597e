use Rattle.run_packets.proofs.admitted.Runs as proof
use Rattle.run_packets.proofs.answers_are_native.Goals as goal

pub returns : goal.returns
returns c = proof.answers_are_native c.told_cycles_have_names.ensures.names
