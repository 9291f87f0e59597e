use Rattle.std.proofs.Common.{◌≡◌, fold, take}
use Rattle.rgm_president.specs.Goals.{other_decided}
use Rattle.rgm_president.proofs.goals.decide_others.Given as goal

abbrev pub invariant-loop-group : goal.invariant-loop-group
invariant-loop-group l = l.view ≡ fold (other_decided l.g l.limits) l.fn.view (take l.group-index l.groups)
