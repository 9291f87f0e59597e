use Rattle.std.proofs.Common.{◌≡◌, fold, take}
use Rattle.sequencer.specs.Outlooks.{with_rising}
use Rattle.sequencer.proofs.outlook.add_rising.Given as goal

abbrev pub invariant-loop-place : goal.invariant-loop-place
invariant-loop-place l = record {
  members : l.outlook.members ≡ l.fn.outlook.members;
  rising : l.outlook ≡ fold (with_rising l.g l.types l.limits l.view l.name) l.fn.outlook (take l.place l.fn.outlook.members);
}
