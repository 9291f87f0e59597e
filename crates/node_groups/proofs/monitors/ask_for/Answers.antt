use Rattle.std.proofs.Common.{rules}
use Rattle.node_groups.proofs.Reports.{may_not_ask}
use Rattle.node_groups.proofs.monitors.ask_for.Goals as goal

pub returns-then-not-may_ask : goal.returns-then-not-may_ask
returns-then-not-may_ask g c = let a = c.args in record {
  plan = may_not_ask g.K.RecordDisk.saving c.may_ask.result a.cluster.now a.me a.up a.ask c.in-Some.ask a.out.now.items a.disk.now c.in-Some.is c.may_ask.ensures.value (search rules);
}
