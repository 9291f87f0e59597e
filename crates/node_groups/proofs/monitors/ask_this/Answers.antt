use Rattle.node_groups.proofs.Reports.{asked_it}
use Rattle.node_groups.proofs.monitors.ask_this.Goals as goal

pub returns : goal.returns
returns g c = let a = c.args in record {
  plan = asked_it g.K.RecordDisk.saving c.is_idle-alone.result a.cluster.now a.me a.up c.add.new.up a.ask.now c.go_on.result a.out.now.items c.go_on.new.out.items a.disk.now c.go_on.new.disk c.is_idle-alone.ensures.value c.in_ok-add.ensures.after c.go_on.ensures.plan;
}
