use Rattle.std.proofs.Common.{subst}
use Rattle.node_model.specs.Plans.{Follows}
use Rattle.node.specs.Due.{presided}
use Rattle.node.proofs.Governing.{governs}
use Rattle.node.proofs.govern.govern.Goals as goal

pub returns-in-Ok : goal.returns-in-Ok
returns-in-Ok g c =
    governs g.K.RecordDisk.saving c.args.cluster.now c.args.me c.args.outcome c.args.again c.args.up c.in_ok-up.up c.attempt_due.new.up c.in-Ok.due
    c.args.out.now.items c.preside.new.out.items c.tick_attempt.new.out.items c.args.disk.now c.preside.new.disk c.tick_attempt.new.disk c.tick_attempt.result
    (subst (λ r. Follows g.K.RecordDisk.saving (presided c.args.cluster.now c.args.me c.args.outcome c.args.again c.args.up) c.args.out.now.items c.args.disk.now r c.preside.new.out.items c.preside.new.disk) c.in_ok-up.was c.preside.ensures)
    c.in-Ok.ensures.rest c.tick_attempt.ensures
