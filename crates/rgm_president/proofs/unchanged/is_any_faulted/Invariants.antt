use Rattle.std.proofs.Common.{◌≡◌, take, false}
use Rattle.rgm_president.specs.Steady.{is_any_faulted}
use Rattle.rgm_president.proofs.unchanged.is_any_faulted.Given as goal

abbrev pub invariant-loop-place : goal.invariant-loop-place
invariant-loop-place l = is_any_faulted (take l.place l.states) ≡ false
