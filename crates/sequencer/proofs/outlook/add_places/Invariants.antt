use Rattle.std.proofs.Common.{◌≡◌, fold, take}
use Rattle.sequencer.specs.Leaving.{with_place}
use Rattle.sequencer.proofs.outlook.add_places.Given as goal

abbrev pub invariant-loop-n : goal.invariant-loop-n
invariant-loop-n l = l.going ≡ fold (with_place l.direction l.g l.view l.members l.name l.r) l.fn.going (take l.n-index l.members)
