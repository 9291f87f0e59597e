use Rattle.std.proofs.Common.{ap, ◌∙◌}
use Rattle.config_cache.specs.InForce.{config_under}
use Rattle.config_cache.specs.Lists.{UpdateList}
use Rattle.config_cache.proofs.cache.ConfigCache.committed.Goals as goal

pub returns : goal.returns
returns c = record {
  value = c.config.ensures.value ∙ ap (λ (l : UpdateList). config_under l.header l.texts) c.in_ok-made_of_committed.ensures.value;
}
