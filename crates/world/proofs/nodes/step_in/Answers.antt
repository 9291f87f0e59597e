use Rattle.std.proofs.Common.{rules}
use Rattle.world.proofs.Places.{step_done}
use Rattle.world.proofs.nodes.step_in.Goals as goal

pub returns : goal.returns
returns c =
    step_done c.args.cluster.now c.args.me c.args.now c.args.outcome c.args.input.now c.args.nodes.now.items c.args.disks.now.items c.index_mut-2.result.now c.step.new.node c.index_mut.result.now c.step.new.disk c.step.new.out.items c.number.result c.number.ensures.value
    (search rules) (search rules) (search rules) (search rules) (search rules)
