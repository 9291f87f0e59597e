use Rattle.run_packets.proofs.repeats.Runs as proof
use Rattle.run_packets.proofs.prepares_again_of_each_run.Goals as goal

pub returns : goal.returns
returns c = proof.prepares_again_of_each_run
