use Rattle.std.proofs.Common.{arith, sym}
use Rattle.world_model.specs.Rounds.{doing_all}
use Rattle.world.proofs.Each.{each_more}
use Rattle.world.proofs.world.World.do_all.Goals as goal

pub loop-n-preserved : goal.loop-n-preserved
loop-n-preserved c =
    each_more doing_all c.args.listed.now c.loop-n.n-index c.n-item.result _ _ _ c.loop-n.invariant (sym c.in_ok-do_commands.ensures) c.n-item.is (omega arith)
