use Rattle.std.proofs.Common.{◌≡◌, ◌++◌}
use Rattle.query_lines.specs.Lines.{device_lines_to}
use Rattle.query_lines.proofs.quorum.push_devices.Given as goal

abbrev pub invariant-loop-place : goal.invariant-loop-place
invariant-loop-place l = l.lines.items ≡ l.fn.lines.items ++ device_lines_to l.votes l.held l.place
