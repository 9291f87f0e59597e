use Rattle.std.proofs.Common.{◌≡◌, ◌++◌}
use Rattle.std.specs.Vec.Iter.{into_iter_items}
use Rattle.node_model.specs.Presidents.{told_lines}
use Rattle.node_queries.proofs.lines.tell_lines.Given as goal

-- the lines so far are told
abbrev pub invariant-loop-line : goal.invariant-loop-line
invariant-loop-line l = record {
  can_next : goal.iterator-loop-line.can_next l.line-iterator;
  is_finite : goal.iterator-loop-line.is_finite l.line-iterator;
  whole : l.yielded ++ into_iter_items l.line-iterator ≡ l.fn.lines.items;
  told : l.out.items ≡ l.fn.out.items ++ told_lines l.yielded;
}
