use Rattle.std.proofs.Common.{◌≡◌, drop}
use Rattle.std.specs.List.{list_any}
use Rattle.placement.specs.Resources.{is_down_on}
use Rattle.placement.proofs.resources.has_down.Given as goal

abbrev pub invariant-loop-place : goal.invariant-loop-place
invariant-loop-place l = list_any (is_down_on l.view l.group l.n) (drop l.place l.g.resources) ≡ list_any (is_down_on l.view l.group l.n) l.g.resources
