use Rattle.std.proofs.Common.{◌≡◌, [], fold, take}
use Rattle.rgm_state.specs.Adopting.{with_first_goal}
use Rattle.rgm_state.proofs.adopting.first_goals.Given as goal

abbrev pub invariant-loop-place : goal.invariant-loop-place
invariant-loop-place l = l.goals ≡ fold (with_first_goal l.g l.states l.members) [] (take l.place l.g.groups)
