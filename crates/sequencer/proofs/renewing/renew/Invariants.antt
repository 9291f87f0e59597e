use Rattle.std.proofs.Common.{◌≡◌, [], ◌∷◌, fold, take}
use Rattle.sequencer.specs.Renewals.{with_anew}
use Rattle.sequencer.proofs.renewing.renew.Given as goal

abbrev pub invariant-loop-next : goal.invariant-loop-next
invariant-loop-next l = record { going = l.going; changed = l.changed.items } ≡ fold (with_anew l.direction l.g l.view l.members) (record { going = l.fn.going; changed = l.name ∷ [] }) (take l.next-index l.order)
