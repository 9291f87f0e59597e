use Rattle.run_packets.proofs.views.Runs as proof
use Rattle.run_packets.proofs.none_begins_alone_in_each_run.Goals as goal

pub returns : goal.returns
returns c = proof.none_begins_alone_in_each_run
