use Rattle.std.proofs.Common.{◌≡◌, length, take}
use Rattle.rg_deps.specs.Places.{AreBehind}
use Rattle.rg_deps.proofs.places.places_behind.Given as goal

abbrev pub invariant-loop-e : goal.invariant-loop-e
invariant-loop-e l = record {
  len : length l.lists.items ≡ l.fn.count;
  behind : AreBehind (take l.e-index l.edges) l.lists.items;
}
