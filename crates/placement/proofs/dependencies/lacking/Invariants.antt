use Rattle.std.proofs.Common.{◌≡◌, drop}
use Rattle.placement.specs.Targets.{first_some, lacked_by}
use Rattle.placement.proofs.dependencies.lacking.Given as goal

abbrev pub invariant-loop-place : goal.invariant-loop-place
invariant-loop-place l = first_some (lacked_by l.g l.view l.name l.own l.n) (drop l.place l.g.resources) ≡ first_some (lacked_by l.g l.view l.name l.own l.n) l.g.resources
