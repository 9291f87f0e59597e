use Rattle.std.proofs.Common.{◌≡◌, take}
use Rattle.std.specs.List.{flat_map}
use Rattle.address_targets.specs.Targets.{target_on}
use Rattle.address_targets.proofs.targets.targets_of.Given as goal

-- the targets among the first of them
abbrev pub invariant-loop-member : goal.invariant-loop-member
invariant-loop-member l = l.targets.items ≡ flat_map (target_on l.config l.view l.address) (take l.member-index l.member-items)
