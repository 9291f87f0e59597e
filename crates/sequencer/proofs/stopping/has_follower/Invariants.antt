use Rattle.std.proofs.Common.{◌≡◌, drop}
use Rattle.std.specs.List.{list_any}
use Rattle.sequencer.specs.Stopping.{follows_up}
use Rattle.sequencer.proofs.stopping.has_follower.Given as goal

abbrev pub invariant-loop-place : goal.invariant-loop-place
invariant-loop-place l = list_any (follows_up l.g l.view l.group l.n) (drop l.place l.g.groups) ≡ list_any (follows_up l.g l.view l.group l.n) l.g.groups
