use Rattle.std.proofs.Common.{◌≡◌, fold, take}
use Rattle.rgm_state.specs.Changes.{unfaulted}
use Rattle.rgm_state.proofs.changes.clear_faulted.Given as goal

abbrev pub invariant-loop-n : goal.invariant-loop-n
invariant-loop-n l = l.states ≡ fold (unfaulted l.r) l.fn.states (take l.n-index l.nodes)
