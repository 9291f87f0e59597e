use Rattle.std.proofs.Common.{◌≡◌, take}
use Rattle.world_model.specs.Sends.{passing}
use Rattle.world_model.specs.Worlds.{play}
use Rattle.world.proofs.world.World.pass_all.Given as goal

abbrev pub invariant-loop-output : goal.invariant-loop-output
invariant-loop-output l = passing l.fn.me (take l.output-index l.fn.outputs) (play l.fn.self l.fn.out.items) ≡ play l.self l.out.items
