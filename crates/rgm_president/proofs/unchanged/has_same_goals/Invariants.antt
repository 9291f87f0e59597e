use Rattle.std.proofs.Common.{◌≡◌, take}
use Rattle.rgm_president.proofs.unchanged.has_same_goals.Given as goal

abbrev pub invariant-loop-place : goal.invariant-loop-place
invariant-loop-place l = take l.place l.a ≡ take l.place l.b
