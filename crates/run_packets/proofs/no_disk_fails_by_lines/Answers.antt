use Rattle.run_packets.proofs.fits.Lines as proof
use Rattle.run_packets.proofs.no_disk_fails_by_lines.Goals as goal

pub returns : goal.returns
returns c = proof.no_disk_fails_by_lines
