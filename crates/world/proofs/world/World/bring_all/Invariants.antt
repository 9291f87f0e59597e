use Rattle.std.proofs.Common.{◌≡◌, ◌≤◌, ◌-◌}
use Rattle.world_model.specs.Worlds.{play}
use Rattle.world_model.specs.Rounds.{bringing_below}
use Rattle.world.proofs.world.World.bring_all.Given as goal

abbrev pub invariant-loop-number : goal.invariant-loop-number
invariant-loop-number l = record {
  within : l.number ≤ l.end;
  brought : bringing_below l.fn.nodes l.number (play l.fn.self l.fn.out.items) ≡ play l.self l.out.items;
}

abbrev pub decreases-loop-number : goal.decreases-loop-number
decreases-loop-number l = l.end - l.number
