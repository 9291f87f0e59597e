use Rattle.node_devices.proofs.Joined.{joined_member, joined_own}
use Rattle.node_devices.proofs.answers.joined_all.Goals as goal

pub returns-then-eq : goal.returns-then-eq
returns-then-eq g c =
    let a = c.args in
    joined_own g.K.RecordDisk.saving a.cluster.now a.me a.up c.session.result c.in-Some.coordinator c.coordinator.result c.eq.result a.out.now.items c.own_ready.new.out.items a.disk.now c.own_ready.new.disk c.own_ready.result
    c.session.ensures.value c.coordinator.ensures c.in-Some.is c.eq.ensures c.if-eq.true c.own_ready.ensures.follows

pub returns-else-eq : goal.returns-else-eq
returns-else-eq g c =
    let a = c.args in
    joined_member g.K.RecordDisk.saving a.cluster.now a.me a.up c.session.result c.in-Some.coordinator c.coordinator.result c.eq.result a.out.now.items c.ready.new.out.items a.disk.now c.ready.result
    c.session.ensures.value c.coordinator.ensures c.in-Some.is c.eq.ensures c.if-eq.false c.ready.ensures.follows
