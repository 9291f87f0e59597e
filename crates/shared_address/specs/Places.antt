-- Where a round of turns stands: at the target of a place, which had so many turns in a row.
use Rattle.std.specs.Prelude.{ℕ, ◌<◌, List, length, slice_get}
use Rattle.std.specs.Option.{option_map_or}
use Rattle.shared_address.specs.Choosing.{HaveWeights}
use Rattle.shared_address.specs.declared.choice.Target.{Target}

-- the weight of the target at the place, 0 where there is none
abbrev pub weight_at : List Target → ℕ → ℕ
weight_at targets place = option_map_or (λ t. t.weight) (slice_get targets place) 0

-- where there is a target, there is one at the place, and it has turns left; and the weights are in their range
pub record IsWithin (targets : List Target) (place served : ℕ) : Type 0 where
  pub left : 0 < length targets → served < weight_at targets place
  pub weights : HaveWeights targets
