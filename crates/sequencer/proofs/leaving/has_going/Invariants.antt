use Rattle.std.proofs.Common.{◌≡◌, drop}
use Rattle.std.specs.List.{list_any}
use Rattle.sequencer.specs.Leaving.{goes_in}
use Rattle.sequencer.proofs.leaving.has_going.Given as goal

abbrev pub invariant-loop-place : goal.invariant-loop-place
invariant-loop-place l = list_any (goes_in l.going l.group l.n) (drop l.place l.g.resources) ≡ list_any (goes_in l.going l.group l.n) l.g.resources
