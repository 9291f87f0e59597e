use Rattle.std.proofs.Common.{◌≡◌, ◌++◌, map}
use Rattle.query_lines.specs.Lines.{row_line}
use Rattle.query_lines.proofs.tables.push_rows.Given as goal

abbrev pub invariant-loop-row : goal.invariant-loop-row
invariant-loop-row l = l.lines.items ≡ l.fn.lines.items ++ map row_line l.yielded
