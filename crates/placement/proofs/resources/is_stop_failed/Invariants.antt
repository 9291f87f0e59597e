use Rattle.std.proofs.Common.{◌≡◌, drop}
use Rattle.std.specs.List.{list_any}
use Rattle.placement.specs.Resources.{is_stop_mark}
use Rattle.placement.proofs.resources.is_stop_failed.Given as goal

abbrev pub invariant-loop-place : goal.invariant-loop-place
invariant-loop-place l = list_any (is_stop_mark l.g l.view l.group) (drop l.place l.view.resources) ≡ list_any (is_stop_mark l.g l.view l.group) l.view.resources
