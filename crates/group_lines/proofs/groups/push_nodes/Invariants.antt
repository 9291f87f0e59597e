use Rattle.std.proofs.Common.{◌≡◌, ◌++◌, take}
use Rattle.std.specs.List.{flat_map}
use Rattle.group_lines.specs.Groups.{lines_on}
use Rattle.group_lines.proofs.groups.push_nodes.Given as goal

abbrev pub invariant-loop-node : goal.invariant-loop-node
invariant-loop-node l = l.lines.items ≡ l.fn.lines.items ++ flat_map (lines_on l.c l.president.view l.group) (take l.node-index l.nodes)
