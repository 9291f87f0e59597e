use Rattle.std.proofs.Common.{◌≡◌}
use Rattle.world_model.specs.First.{first_disks}
use Rattle.world.proofs.making.first_disks.Given as goal

abbrev pub invariant-loop-index : goal.invariant-loop-index
invariant-loop-index l = l.disks.items ≡ first_disks l.cluster l.index
