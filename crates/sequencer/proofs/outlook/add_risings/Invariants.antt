use Rattle.std.proofs.Common.{◌≡◌, fold, take}
use Rattle.sequencer.specs.Kept.{with_risings_of}
use Rattle.sequencer.proofs.outlook.add_risings.Given as goal

abbrev pub invariant-loop-name : goal.invariant-loop-name
invariant-loop-name l = l.outlook ≡ fold (with_risings_of l.g l.types l.limits l.view l.names) l.fn.outlook (take l.name-index l.order)
