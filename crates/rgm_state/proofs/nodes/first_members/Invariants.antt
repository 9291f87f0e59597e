use Rattle.std.proofs.Common.{◌≡◌, fold, take}
use Rattle.rgm_state.specs.Asks.{with_member}
use Rattle.rgm_state.proofs.nodes.first_members.Given as goal

abbrev pub invariant-loop-n : goal.invariant-loop-n
invariant-loop-n l = l.nodes ≡ fold (with_member l.members l.group.desired) 0 (take l.n-index l.group.nodelist)
