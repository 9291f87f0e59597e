use Rattle.std.proofs.Common.{◌≡◌, drop}
use Rattle.std.specs.List.{list_any}
use Rattle.placement.specs.Resources.{is_enabled_in}
use Rattle.placement.proofs.resources.has_enabled.Given as goal

abbrev pub invariant-loop-place : goal.invariant-loop-place
invariant-loop-place l = list_any (λ e. is_enabled_in l.group e.1) (drop l.place l.g.resources) ≡ list_any (λ e. is_enabled_in l.group e.1) l.g.resources
