use Rattle.run_packets.proofs.replies.Runs as proof
use Rattle.run_packets.proofs.orders_are_answered_in_each_run.Goals as goal

pub returns : goal.returns
returns c = proof.orders_are_answered_in_each_run
