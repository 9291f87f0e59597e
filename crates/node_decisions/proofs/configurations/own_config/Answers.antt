use Rattle.std.proofs.Common.{ap, ◌∙◌}
use Rattle.ccr_commit.specs.Entries.{texts_of}
use Rattle.config_cache.specs.InForce.{config_under}
use Rattle.node_decisions.proofs.configurations.own_config.Goals as goal

pub returns-in-Ok : goal.returns-in-Ok
returns-in-Ok c = record {
  value = c.in-Ok.ensures.value ∙ ap (λ h. config_under h (texts_of c.entries.result.now)) c.get.ensures.value ∙ ap (λ e. config_under c.args.cluster.now.header (texts_of e)) c.entries.ensures.value;
}
