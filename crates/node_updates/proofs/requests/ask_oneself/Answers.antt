use Rattle.std.proofs.Common.{rules, Some, refl}
use Rattle.node_updates.proofs.Asking.{asks_own}
use Rattle.node_updates.proofs.requests.ask_oneself.Goals as goal

pub returns-in-Ok-Some : goal.returns-in-Ok-Some
returns-in-Ok-Some g c = record {
  plan = asks_own g.K.RecordDisk.saving c.args.cluster.now c.args.me c.args.up (Some c.in-Ok-Some.own) c.in-Ok-Some.own c.arrive.result c.args.out.now.items c.arrive.new.out.items c.args.disk.now c.arrive.new.disk (search rules) refl c.requires.president c.arrive.ensures.plan;
}
