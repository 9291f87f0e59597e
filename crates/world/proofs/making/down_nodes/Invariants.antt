use Rattle.std.proofs.Common.{◌≡◌, replicate}
use Rattle.node_model.specs.declared.node.Node.TheVariants.{Down}
use Rattle.world.proofs.making.down_nodes.Given as goal

abbrev pub invariant-loop : goal.invariant-loop
invariant-loop l = l.nodes.items ≡ replicate l.counter Down
