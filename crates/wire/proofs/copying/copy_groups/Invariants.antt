use Rattle.std.proofs.Common.{◌≡◌, take}
use Rattle.wire.proofs.copying.copy_groups.Given as goal

abbrev pub invariant-loop-g : goal.invariant-loop-g
invariant-loop-g l = l.copies.items ≡ take l.g-index l.listed
