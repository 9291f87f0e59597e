use Rattle.std.proofs.Common.{◌≡◌, take}
use Rattle.world_model.specs.Worlds.{play}
use Rattle.world_model.specs.Rounds.{for_each, doing_all}
use Rattle.world.proofs.world.World.do_all.Given as goal

abbrev pub invariant-loop-n : goal.invariant-loop-n
invariant-loop-n l = for_each doing_all (take l.n-index l.fn.listed) (play l.fn.self l.fn.out.items) ≡ play l.self l.out.items
