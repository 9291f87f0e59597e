use Rattle.node.proofs.Moving.{moved_is}
use Rattle.node.proofs.stepping.step.Goals as goal

pub returns : goal.returns
returns g c =
    record {
      step = moved_is _ c.args.cluster.now c.args.me c.args.now c.args.outcome c.args.node.now c.set_second.new.node c.args.disk.now c.args.input.now _ c.move_on.result c.set_second.ensures.after c.move_on.ensures;
    }
