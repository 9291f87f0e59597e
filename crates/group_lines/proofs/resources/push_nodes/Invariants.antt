use Rattle.std.proofs.Common.{◌≡◌, ◌++◌, map, take}
use Rattle.group_lines.specs.Resources.{line_on}
use Rattle.group_lines.proofs.resources.push_nodes.Given as goal

abbrev pub invariant-loop-node : goal.invariant-loop-node
invariant-loop-node l = l.lines.items ≡ l.fn.lines.items ++ map (line_on l.states l.r) (take l.node-index l.nodes)
