use Rattle.std.proofs.Common.{rules}
use Rattle.node_attempts.proofs.StartLemmas.{installs_so}
use Rattle.node_attempts.proofs.installing.install_here.Goals as goal

pub returns : goal.returns
returns g c =
    let a = c.args in
    let done = c.settle-done in
    record {
      follows = installs_so g.K.RecordDisk.saving a.cluster.now a.me a.up c.in_ok-up.up a.i c.in_ok-up.changed a.out.now.items done.new.out.items a.disk.now done.new.disk _ c.hand_over.result
          c.in_ok-up.ensures.node c.in_ok-up.ensures.changed (search rules) c.hand_over.ensures.value done.ensures;
    }
