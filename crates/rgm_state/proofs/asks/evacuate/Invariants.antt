use Rattle.std.proofs.Common.{◌≡◌, fold, take}
use Rattle.rgm_state.specs.Asks.{with_evacuated}
use Rattle.rgm_state.proofs.asks.evacuate.Given as goal

abbrev pub invariant-loop-place : goal.invariant-loop-place
invariant-loop-place l = l.evacuated ≡ fold (with_evacuated l.n) l.fn.evacuated (take l.place l.goals)
