use Rattle.std.proofs.Common.{◌≡◌, drop}
use Rattle.std.specs.List.{list_any}
use Rattle.sequencer.specs.Standing.{is_missing_in}
use Rattle.sequencer.proofs.groups.has_missing.Given as goal

abbrev pub invariant-loop-place : goal.invariant-loop-place
invariant-loop-place l = list_any (is_missing_in l.view l.group l.n) (drop l.place l.g.resources) ≡ list_any (is_missing_in l.view l.group l.n) l.g.resources
