use Rattle.std.proofs.Common.{◌≡◌, ◌++◌, length, take}
use Rattle.std.specs.List.{flat_map, AllByRecursion}
use Rattle.wire.specs.Spelling.{number}
use Rattle.wire.proofs.item.put_list.Given as goal

abbrev pub invariant-loop-item : goal.invariant-loop-item
invariant-loop-item g l = record {
  spelled : l.writer ≡ (l.fn.writer ++ number 2 (length l.items)) ++ flat_map g.T.Item.spelled (take l.item-index l.items);
  range : AllByRecursion g.T.Item.fits (take l.item-index l.items);
}
