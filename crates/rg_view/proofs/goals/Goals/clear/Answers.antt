use Rattle.std.specs.List.{IsDistinct}
use Rattle.std.specs.Map.{keys_of}
use Rattle.cl_base.proofs.NameLemmas.{by_bytes}
use Rattle.rg_view.proofs.goals.Goals.clear.Goals as goal

pub invariant_of-self : goal.invariant_of-self
invariant_of-self c = by_bytes (λ eq. IsDistinct eq (keys_of c.clear.new.self.entries)) c.clear.ensures.unique
