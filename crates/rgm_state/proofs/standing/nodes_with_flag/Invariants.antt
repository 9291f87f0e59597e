use Rattle.std.proofs.Common.{◌≡◌, fold, filter, take}
use Rattle.cl_base.specs.Sets.{set_with}
use Rattle.rgm_state.specs.Standing.{have_flag}
use Rattle.rgm_state.proofs.standing.nodes_with_flag.Given as goal

abbrev pub invariant-loop-n : goal.invariant-loop-n
invariant-loop-n l = l.nodes ≡ fold set_with 0 (filter (have_flag l.states l.resources) (take l.n-index l.members))
