use Rattle.std.proofs.Common.{◌≡◌, length, None, fold, replicate, take}
use Rattle.rg_deps.specs.Places.{with_priority}
use Rattle.rg_deps.proofs.places.priorities.Given as goal

abbrev pub invariant-loop-t : goal.invariant-loop-t
invariant-loop-t l = record {
  len : length l.table.items ≡ l.fn.count;
  table : l.table.items ≡ fold with_priority (replicate l.fn.count None) (take l.t-index l.things);
}
