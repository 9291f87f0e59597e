use Rattle.std.proofs.Common.{◌≡◌}
use Rattle.cl_base.specs.Numbers.{first_numbers}
use Rattle.world.proofs.making.all_devices.Given as goal

abbrev pub invariant-loop-index : goal.invariant-loop-index
invariant-loop-index l = l.set ≡ first_numbers l.index
