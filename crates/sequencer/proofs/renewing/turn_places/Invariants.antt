use Rattle.std.proofs.Common.{◌≡◌, false, fold, take}
use Rattle.sequencer.specs.Renewals.{with_place_anew}
use Rattle.sequencer.proofs.renewing.turn_places.Given as goal

abbrev pub invariant-loop-n : goal.invariant-loop-n
invariant-loop-n l = record { going = l.going; turned = l.turned } ≡ fold (with_place_anew l.direction l.g l.view l.members l.name l.r) (record { going = l.fn.going; turned = false }) (take l.n-index l.members)
