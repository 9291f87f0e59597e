use Rattle.std.proofs.Common.{◌≡◌}
use Rattle.world_model.specs.Worlds.{play}
use Rattle.world_model.specs.Rounds.{doing_some}
use Rattle.world.proofs.world.World.do_some.Given as goal

abbrev pub invariant-loop : goal.invariant-loop
invariant-loop l = doing_some l.fn.n l.counter (play l.fn.self l.fn.out.items) ≡ play l.self l.out.items
