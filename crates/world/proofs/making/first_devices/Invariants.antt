use Rattle.std.proofs.Common.{◌≡◌, map, take}
use Rattle.world_model.specs.First.{first_device}
use Rattle.world.proofs.making.first_devices.Given as goal

abbrev pub invariant-loop-device : goal.invariant-loop-device
invariant-loop-device l = l.devices.items ≡ map (first_device l.header) (take l.device-index l.listed)
