use Rattle.node_attempts.proofs.StartLemmas.{starts_here}
use Rattle.node_attempts.proofs.starting.start_here.Goals as goal

pub returns-in-Ok : goal.returns-in-Ok
returns-in-Ok g c =
    let a = c.args in
    record {
      follows = starts_here g.K.RecordDisk.saving a.cluster.now a.me a.up c.preside.new.up c.in-Some.attempt c.take.new.self a.out.now.items c.start_as.new.out.items a.disk.now c.start_as.new.disk c.start_as.result
          c.in-Some.ensures.value c.preside.ensures.same c.start_as.ensures;
    }
