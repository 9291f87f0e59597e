use Rattle.std.specs.List.{IsDistinct}
use Rattle.std.specs.Map.{keys_of}
use Rattle.cl_base.proofs.NameLemmas.{by_bytes}
use Rattle.rg_view.proofs.goals.Goals.new.Goals as goal

pub invariant_of-result : goal.invariant_of-result
invariant_of-result c = by_bytes (λ eq. IsDistinct eq (keys_of c.new.result.entries)) c.new.ensures.unique
