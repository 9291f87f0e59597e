use Rattle.std.proofs.Common.{◌≡◌}
use Rattle.world_model.specs.Worlds.{play}
use Rattle.world_model.specs.Rounds.{rounds_of}
use Rattle.world.proofs.world.World.do_rounds.Given as goal

abbrev pub invariant-loop : goal.invariant-loop
invariant-loop l = rounds_of l.fn.nodes l.fn.listed l.counter (play l.fn.self l.fn.out.items) ≡ play l.self l.out.items
