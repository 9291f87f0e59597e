use Rattle.std.proofs.Common.{arith, sym}
use Rattle.world.proofs.Outputs.{one_passed}
use Rattle.world.proofs.world.World.pass_all.Goals as goal

pub loop-output-preserved : goal.loop-output-preserved
loop-output-preserved c =
    one_passed c.args.me c.args.outputs.now c.loop-output.output-index c.output-item.result _ _ _ c.loop-output.invariant (sym c.in_ok-pass_on.ensures) c.output-item.is (omega arith)
