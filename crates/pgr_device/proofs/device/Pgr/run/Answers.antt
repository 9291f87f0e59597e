use Rattle.std.proofs.Common.{arith}
use Rattle.std.proofs.lemmas.Grind.{common_steps}
use Rattle.pgr_device.proofs.RunParts.{came_on}
use Rattle.pgr_device.proofs.device.Pgr.run.Goals as goal

pub loop-step-preserved : goal.loop-step-preserved
loop-step-preserved c = record {
  goes = grind (arith, common_steps);
  said = grind (arith, common_steps);
  came = came_on c.args.self.now c.loop-step.self c.take.new.self c.args.steps.now c.loop-step.step-index c.step-item.result c.loop-step.invariant.came (omega arith) c.step-item.is c.take.ensures.after;
  left = grind (arith, common_steps);
}
