use Rattle.std.proofs.Common.{◌≡◌, take}
use Rattle.world_model.specs.Worlds.{play}
use Rattle.world_model.specs.Rounds.{for_each, ticking_one}
use Rattle.world.proofs.world.World.tick_all.Given as goal

abbrev pub invariant-loop-n : goal.invariant-loop-n
invariant-loop-n l = for_each ticking_one (take l.n-index l.fn.listed) (play l.fn.self l.fn.out.items) ≡ play l.self l.out.items
