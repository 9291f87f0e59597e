use Rattle.std.proofs.Common.{rules}
use Rattle.std.proofs.lemmas.Fn.{filter_same}
use Rattle.load_limits.proofs.limits.Limits.delete.Goals as goal

pub returns : goal.returns
returns c = record { value = rw (← c.self.view_is) (filter_same _ _ _ (λ x b q called. search rules) _ _ c.retain.ensures.filtered) }
