use Rattle.std.proofs.Common.{subst}
use Rattle.node_model.specs.Groups.{own_order, own_turn}
use Rattle.node_model.specs.Plans.{Follows}
use Rattle.node.proofs.Governing.{presides}
use Rattle.node.proofs.govern.preside.Goals as goal

pub returns : goal.returns
returns g c =
    presides g.K.RecordDisk.saving c.args.cluster.now c.args.me c.args.outcome c.args.again c.args.up c.in_ok-up.up c.go_again-done.new.up
    c.args.out.now.items c.carry_own.new.out.items c.go_again-done.new.out.items c.args.disk.now c.carry_own.new.disk c.go_again-done.result c.hand_back.result
    (subst (λ r. Follows g.K.RecordDisk.saving (own_turn c.args.cluster.now c.args.me c.args.outcome c.args.up (own_order c.args.me c.args.up)) c.args.out.now.items c.args.disk.now r c.carry_own.new.out.items c.carry_own.new.disk) c.in_ok-up.was c.carry_own.ensures.plan)
    c.go_again-done.ensures c.hand_back.ensures.value
