use Rattle.std.proofs.Common.{◌≡◌, ◌++◌, ◌∷◌, [], take}
use Rattle.std.specs.List.{flat_map}
use Rattle.ccr_rows.specs.Rows.{resource_rows}
use Rattle.ccr_rows.proofs.resources.push_resources.Given as goal

abbrev pub invariant-loop-place : goal.invariant-loop-place
invariant-loop-place l = l.rows.items ≡ l.fn.rows.items ++ flat_map (λ p. resource_rows p.0 p.1) (take l.place l.groups.resources)
