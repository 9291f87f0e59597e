use Rattle.std.proofs.Common.{◌≡◌, take}
use Rattle.wire.proofs.copying.copy_resources.Given as goal

abbrev pub invariant-loop-r : goal.invariant-loop-r
invariant-loop-r l = l.copies.items ≡ take l.r-index l.listed
