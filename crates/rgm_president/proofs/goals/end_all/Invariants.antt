use Rattle.std.proofs.Common.{◌≡◌, fold, take}
use Rattle.rgm_president.specs.Goals.{ended_for}
use Rattle.rgm_president.proofs.goals.end_all.Given as goal

abbrev pub invariant-loop-r : goal.invariant-loop-r
invariant-loop-r l = l.states ≡ fold (ended_for l.g l.goals l.members) l.fn.states (take l.r-index l.resources)
