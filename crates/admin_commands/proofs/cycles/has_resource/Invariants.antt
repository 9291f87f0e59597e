use Rattle.std.proofs.Common.{◌≡◌, false, take}
use Rattle.std.specs.List.{list_any}
use Rattle.ccr_tables.specs.Uses.{is_of_type}
use Rattle.admin_commands.proofs.cycles.has_resource.Given as goal

abbrev pub invariant-loop-place : goal.invariant-loop-place
invariant-loop-place l = list_any (λ p. is_of_type l.of_type p.1) (take l.place l.groups.resources) ≡ false
