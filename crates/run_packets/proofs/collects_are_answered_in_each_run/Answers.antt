use Rattle.run_packets.proofs.replies.Collects as proof
use Rattle.run_packets.proofs.collects_are_answered_in_each_run.Goals as goal

pub returns : goal.returns
returns c = proof.collects_are_answered_in_each_run
