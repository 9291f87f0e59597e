use Rattle.refinement.specs.Steps.{disk_rules}
use Rattle.refinement.proofs.Disks.{disks_keep_rules}
use Rattle.refinement.proofs.Replies as proof
use Rattle.refinement.proofs.steps_are_cut.Goals as goal

pub returns : goal.returns
returns c = proof.steps_are_cut disk_rules disks_keep_rules
