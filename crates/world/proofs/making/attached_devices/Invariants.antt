use Rattle.std.proofs.Common.{◌≡◌, take}
use Rattle.world_model.specs.First.{attached_from}
use Rattle.world.proofs.making.attached_devices.Given as goal

abbrev pub invariant-loop-index : goal.invariant-loop-index
invariant-loop-index l = l.attached.items ≡ attached_from 1 (take l.index l.devices)
