use Rattle.refinement.specs.Steps.{disk_rules}
use Rattle.refinement.proofs.Disks.{disks_keep_rules}
use Rattle.refinement.proofs.Facts.{steps_go}
use Rattle.refinement.proofs.nodes_go.Goals as goal

pub returns : goal.returns
returns c = steps_go disk_rules disks_keep_rules
