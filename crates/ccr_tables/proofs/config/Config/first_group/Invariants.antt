use Rattle.std.proofs.Common.{◌≡◌, None, take}
use Rattle.std.specs.List.{find}
use Rattle.ccr_tables.specs.Uses.{group_passes}
use Rattle.ccr_tables.proofs.config.Config.first_group.Given as goal

abbrev pub invariant-loop-place : goal.invariant-loop-place
invariant-loop-place l = find (λ p. group_passes l.test p.1) (take l.place l.self.groups.groups) ≡ None
