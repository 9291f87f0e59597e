use Rattle.std.proofs.Common.{◌≡◌, take}
use Rattle.rgm_president.specs.Goals.{listed}
use Rattle.rgm_president.proofs.goals.listed.Given as goal

abbrev pub invariant-loop-group : goal.invariant-loop-group
invariant-loop-group l = l.goals ≡ listed l.previous (take l.group-index l.groups)
