use Rattle.std.proofs.Common.{◌≡◌, [], fold, take}
use Rattle.sequencer.specs.Leaving.{with_resource}
use Rattle.sequencer.proofs.outlook.going.Given as goal

abbrev pub invariant-loop-name : goal.invariant-loop-name
invariant-loop-name l = l.going ≡ fold (with_resource l.direction l.g l.view l.members) [] (take l.name-index l.order)
