use Rattle.std.proofs.Common.{ap, ◌∙◌}
use Rattle.config_cache.specs.InForce.{config_under}
use Rattle.node_decisions.proofs.configurations.in_force.Goals as goal

pub returns-in-Ok : goal.returns-in-Ok
returns-in-Ok c = record {
  value = c.in-Ok.ensures.value ∙ ap (λ h. config_under h c.entries.result.now.committed) c.get.ensures.value ∙ ap (λ e. config_under c.args.cluster.now.header e.committed) c.entries.ensures.value;
}
