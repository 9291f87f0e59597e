use Rattle.node_attempts.proofs.StartLemmas.{sits, sits_not}
use Rattle.node_attempts.proofs.starting.start_as.Goals as goal

pub returns-in-Some : goal.returns-in-Some
returns-in-Some g c =
    let a = c.args in
    let sat = c.sit_down-up in
    let told = c.tell_membership-told in
    sits g.K.RecordDisk.saving a.cluster.now a.me a.up sat.result.0 c.enter.new.up a.attempt c.epoch.result c.epoch-in-Some.result sat.result.1 c.in-Some.changed a.presidency
    a.out.now.items told.new.out.items a.disk.now told.new.disk _ c.hand_over.result c.epoch.ensures.value c.epoch-in-Some.ensures.value sat.ensures.node sat.ensures.changed c.in-Some.is c.enter.ensures c.requires.president c.hand_over.ensures.value told.ensures

pub returns-in-None : goal.returns-in-None
returns-in-None g c =
    let a = c.args in
    let sat = c.sit_down-up in
    let put = c.put_back-put in
    sits_not g.K.RecordDisk.saving a.cluster.now a.me a.up sat.result.0 put.new.up a.attempt c.epoch.result sat.result.1 a.out.now.items a.disk.now put.result c.hand_over-in-None.result
    c.epoch.ensures.value sat.ensures.node sat.ensures.changed c.in-None.is put.ensures.after put.ensures.only c.hand_over-in-None.ensures.value
