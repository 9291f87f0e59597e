use Rattle.std.proofs.Common.{rules}
use Rattle.world_model.specs.Worlds.{play}
use Rattle.world.proofs.Lengths.{not_posted}
use Rattle.world.proofs.world.World.send.Goals as goal

pub returns-then-not-is_short : goal.returns-then-not-is_short
returns-then-not-is_short c = not_posted c.args.from c.args.to c.args.body.now (play c.args.self.now c.args.out.now.items) (search rules)
