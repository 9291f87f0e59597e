use Rattle.std.proofs.Common.{◌≡◌, drop}
use Rattle.std.specs.List.{list_any}
use Rattle.sequencer.specs.Starting.{avoids_up}
use Rattle.sequencer.proofs.starting.is_avoided.Given as goal

abbrev pub invariant-loop-place : goal.invariant-loop-place
invariant-loop-place l = list_any (avoids_up l.g l.view l.group l.n) (drop l.place l.g.groups) ≡ list_any (avoids_up l.g l.view l.group l.n) l.g.groups
