use Rattle.std.proofs.Common.{◌≡◌, ◌-◌}
use Rattle.wire.specs.Reads.{items_at}
use Rattle.wire.proofs.Loop.{with_front}
use Rattle.wire.proofs.item.items.Given as goal

abbrev pub invariant-loop : goal.invariant-loop
invariant-loop g l = with_front l.items.items (items_at g.T.Item.read_at (l.count - l.counter) l.reader) ≡ items_at g.T.Item.read_at l.count l.fn.reader
