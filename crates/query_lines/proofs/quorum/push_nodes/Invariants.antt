use Rattle.std.proofs.Common.{◌≡◌, ◌++◌}
use Rattle.query_lines.specs.Lines.{node_lines_to}
use Rattle.query_lines.proofs.quorum.push_nodes.Given as goal

abbrev pub invariant-loop-place : goal.invariant-loop-place
invariant-loop-place l = l.lines.items ≡ l.fn.lines.items ++ node_lines_to l.votes l.members l.place
