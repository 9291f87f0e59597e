use Rattle.refinement.proofs.Disks as proof
use Rattle.refinement.proofs.disks_keep_rules.Goals as goal

pub returns : goal.returns
returns c = proof.disks_keep_rules
