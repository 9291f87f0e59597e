use Rattle.std.proofs.Common.{rules}
use Rattle.node_members.proofs.Installs.{installs_so}
use Rattle.node_members.proofs.install.install_members.Goals as goal

pub returns : goal.returns
returns g c =
    let a = c.args in
    let done = c.settle-settled in
    installs_so g.K.RecordDisk.saving a.cluster.now a.me a.up c.in_ok-up.up a.i.now c.in_ok-up.changed a.out.now.items done.new.out.items a.disk.now done.new.disk _ c.hand_over.result
    c.in_ok-up.ensures.node c.in_ok-up.ensures.changed (search rules) c.hand_over.ensures.value done.ensures
