use Rattle.run_packets.proofs.admitted.Whole as proof
use Rattle.run_packets.proofs.none_is_foreign_in_each_run.Goals as goal

pub returns : goal.returns
returns c = proof.none_is_foreign_in_each_run c.told_cycles_have_names.ensures.names
