use Rattle.std.proofs.Common.{ap, ◌∙◌}
use Rattle.node_model.specs.Attempts.{begins_install}
use Rattle.node_attempts.proofs.StartLemmas.{readies_then}
use Rattle.node_attempts.proofs.performing.perform.Goals as goal

pub returns-then-installs : goal.returns-then-installs
returns-then-installs g c =
    let a = c.args in
    readies_then g.K.RecordDisk.saving a.cluster.now a.me a.up a.steps c.begins_install-installs.result a.out.now.items c.perform_all.new.out.items c.own_ready.new.out.items
    a.disk.now c.perform_all.new.disk c.own_ready.new.disk c.in_ok-up.up c.own_ready.result c.if-installs.true (c.begins_install-installs.ensures ∙ ap begins_install c.items.ensures.value) c.in_ok-up.ensures c.own_ready.ensures.follows
