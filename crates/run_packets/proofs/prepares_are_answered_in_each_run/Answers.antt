use Rattle.run_packets.proofs.replies.Prepares as proof
use Rattle.run_packets.proofs.prepares_are_answered_in_each_run.Goals as goal

pub returns : goal.returns
returns c = proof.prepares_are_answered_in_each_run
