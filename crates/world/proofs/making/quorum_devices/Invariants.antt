use Rattle.std.proofs.Common.{◌≡◌, take}
use Rattle.world_model.specs.First.{quorum_from}
use Rattle.world.proofs.making.quorum_devices.Given as goal

abbrev pub invariant-loop-index : goal.invariant-loop-index
invariant-loop-index l = l.set ≡ quorum_from 1 (take l.index l.devices) 0
