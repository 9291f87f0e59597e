use Rattle.std.proofs.Common.{◌≡◌, None, fold, take}
use Rattle.sequencer.specs.Next.{with_up}
use Rattle.sequencer.proofs.next.first_up.Given as goal

abbrev pub invariant-loop-name : goal.invariant-loop-name
invariant-loop-name l = l.found ≡ fold (with_up l.g l.types l.limits l.view l.outlook l.n) None (take l.name-index l.order)
