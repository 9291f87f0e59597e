use Rattle.std.proofs.Common.{◌≡◌, take}
use Rattle.rgm_state.specs.Changes.{set_of}
use Rattle.rgm_state.proofs.nodes.set_of.Given as goal

abbrev pub invariant-loop-n : goal.invariant-loop-n
invariant-loop-n l = l.set ≡ set_of (take l.n-index l.nodes)
