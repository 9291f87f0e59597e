use Rattle.std.proofs.Common.{rules}
use Rattle.node_devices.proofs.Answered.{answered_so}
use Rattle.node_devices.proofs.answers.take_device_answer.Goals as goal

pub returns : goal.returns
returns g c =
    record {
      follows = answered_so g.K.RecordDisk.saving c.args.cluster.now c.args.me c.args.up c.args.answer c.take_answer-progress.new.self c.greatest_of-up.result c.in-Some-Some.device c.in-Some-Some.command c.take_answer-progress.result
          c.args.out.now.items c.tell.new.out.items c.take_progress.new.out.items c.args.disk.now c.take_progress.new.disk c.take_progress.result
          (search rules) (search rules) (search rules) (search rules) (search rules) (search rules) c.take_progress.ensures;
    }
