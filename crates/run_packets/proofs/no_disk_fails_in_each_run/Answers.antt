use Rattle.run_packets.proofs.fits.Runs as proof
use Rattle.run_packets.proofs.no_disk_fails_in_each_run.Goals as goal

pub returns : goal.returns
returns c = proof.no_disk_fails_in_each_run
