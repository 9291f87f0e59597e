use Rattle.std.proofs.Common.{◌≡◌, ◌++◌, ◌∷◌, [], take}
use Rattle.std.specs.List.{flat_map}
use Rattle.ccr_rows.specs.Rows.{address_rows}
use Rattle.ccr_rows.proofs.addresses.push_addresses.Given as goal

abbrev pub invariant-loop-place : goal.invariant-loop-place
invariant-loop-place l = l.rows.items ≡ l.fn.rows.items ++ flat_map (λ p. address_rows p.0 p.1) (take l.place l.addresses)
