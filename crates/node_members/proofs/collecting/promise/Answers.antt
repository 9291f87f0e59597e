use Rattle.node_members.proofs.Promises.{promise_then}
use Rattle.node_members.proofs.collecting.promise.Goals as goal

pub returns : goal.returns
returns g c =
    promise_then g.K.RecordDisk.saving c.args.me c.args.up c.args.from c.args.p c.in-Ok.node c.leave_session-left.new.up c.args.out.now.items c.leave_session-left.new.out.items
    c.args.disk.now c.leave_session-left.new.disk c.leave_session-left.result c.hand_over.result c.requires.smaller c.in-Ok.ensures.ok c.hand_over.ensures.value c.leave_session-left.ensures
