use Rattle.run_packets.proofs.views.Runs as proof
use Rattle.run_packets.proofs.each_run_has_an_account.Goals as goal

pub returns : goal.returns
returns c = proof.each_run_has_an_account
