use Rattle.std.proofs.Common.{◌≡◌, ◌++◌, ◌∷◌, [], take}
use Rattle.std.specs.List.{flat_map}
use Rattle.ccr_rows.specs.Rows.{type_row}
use Rattle.ccr_rows.proofs.resource_types.push_types.Given as goal

abbrev pub invariant-loop-place : goal.invariant-loop-place
invariant-loop-place l = l.rows.items ≡ l.fn.rows.items ++ flat_map (λ p. type_row p.0 p.1 ∷ []) (take l.place l.types)
