use Rattle.std.proofs.Common.{◌≡◌}
use Rattle.rg_deps.specs.Choice.{IsAt}
use Rattle.rg_deps.specs.Order.{chosen}
use Rattle.rg_deps.proofs.choice.choose.Given as goal

abbrev pub invariant-loop : goal.invariant-loop
invariant-loop l = record {
  order : l.order.items ≡ chosen l.things l.edges l.counter;
  at : IsAt l.edges l.fn.count l.priorities.items l.order.items l.standing.items l.waiting.items l.ready;
}
