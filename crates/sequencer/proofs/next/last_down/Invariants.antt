use Rattle.std.proofs.Common.{◌≡◌, None, fold, take}
use Rattle.sequencer.specs.Next.{with_down}
use Rattle.sequencer.proofs.next.last_down.Given as goal

abbrev pub invariant-loop-name : goal.invariant-loop-name
invariant-loop-name l = l.found ≡ fold (with_down l.g l.types l.limits l.view l.outlook l.n) None (take l.name-index l.order)
