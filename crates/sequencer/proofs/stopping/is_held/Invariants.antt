use Rattle.std.proofs.Common.{◌≡◌, drop}
use Rattle.std.specs.List.{list_any}
use Rattle.sequencer.specs.Stopping.{is_holding}
use Rattle.sequencer.proofs.stopping.is_held.Given as goal

abbrev pub invariant-loop-place : goal.invariant-loop-place
invariant-loop-place l = list_any (is_holding l.g l.view l.members l.name l.n) (drop l.place l.g.resources) ≡ list_any (is_holding l.g l.view l.members l.name l.n) l.g.resources
