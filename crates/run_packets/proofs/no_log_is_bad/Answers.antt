use Rattle.run_packets.proofs.native.Runs as proof
use Rattle.run_packets.proofs.no_log_is_bad.Goals as goal

pub returns : goal.returns
returns c = proof.no_log_is_bad
