use Rattle.std.proofs.Common.{◌≡◌, None, take}
use Rattle.std.specs.List.{find}
use Rattle.ccr_tables.specs.Uses.{is_served_by}
use Rattle.ccr_tables.proofs.addresses.Addresses.first_served_by.Given as goal

abbrev pub invariant-loop-place : goal.invariant-loop-place
invariant-loop-place l = find (λ p. is_served_by l.group p.1) (take l.place l.self) ≡ None
