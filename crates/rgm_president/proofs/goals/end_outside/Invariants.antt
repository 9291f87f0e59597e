use Rattle.std.proofs.Common.{◌≡◌, fold, take}
use Rattle.rgm_president.specs.Goals.{ended_outside}
use Rattle.rgm_president.proofs.goals.end_outside.Given as goal

abbrev pub invariant-loop-n : goal.invariant-loop-n
invariant-loop-n l = l.states ≡ fold (ended_outside l.goals l.group l.name) l.fn.states (take l.n-index l.members)
