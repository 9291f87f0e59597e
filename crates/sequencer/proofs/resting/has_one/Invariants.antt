use Rattle.std.proofs.Common.{◌≡◌, drop}
use Rattle.std.specs.List.{list_any}
use Rattle.sequencer.specs.Resting.{is_one_in}
use Rattle.sequencer.proofs.resting.has_one.Given as goal

abbrev pub invariant-loop-place : goal.invariant-loop-place
invariant-loop-place l = list_any (is_one_in l.names l.group) (drop l.place l.g.resources) ≡ list_any (is_one_in l.names l.group) l.g.resources
