use Rattle.std.proofs.Common.{◌∙◌}
use Rattle.node_adoption.proofs.AtStart.{presides}
use Rattle.node_adoption.proofs.presiding.preside.Goals as goal

pub returns-clause-value : goal.returns-clause-value
returns-clause-value c =
    presides c.args.cluster.now c.args.me c.args.up.now c.own_report.new.up c.args.attempt.now c.in_ok-own.own c.deref.result.now c.in_ok-new.field-0 c.held_devices.result c.in_ok-groups.groups c.new-2.result c.new-3.result
    c.in_ok-own.ensures.same c.in_ok-own.ensures.value (c.deref.ensures.value ∙ c.in_ok-reports.ensures.value) c.in_ok-new.ensures.value c.held_devices.ensures.value c.in_ok-groups.ensures.value c.new-2.ensures.value c.new-3.ensures.value
