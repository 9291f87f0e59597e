use Rattle.run_packets.proofs.admitted.Whole as proof
use Rattle.run_packets.proofs.attempts_begin_as_wanted.Goals as goal

pub returns : goal.returns
returns c = proof.attempts_begin_as_wanted c.told_cycles_have_names.ensures.names
