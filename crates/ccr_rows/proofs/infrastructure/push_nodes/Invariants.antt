use Rattle.std.proofs.Common.{◌≡◌, ◌++◌, map, take}
use Rattle.ccr_rows.specs.Rows.{node_row}
use Rattle.ccr_rows.proofs.infrastructure.push_nodes.Given as goal

abbrev pub invariant-loop-node : goal.invariant-loop-node
invariant-loop-node l = l.rows.items ≡ l.fn.rows.items ++ map (node_row l.config) (take l.node-index l.node-items)
