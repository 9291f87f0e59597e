use Rattle.std.proofs.Common.{◌≡◌, ◌++◌, take}
use Rattle.std.specs.List.{flat_map}
use Rattle.node_model.specs.Attempts.{adopted_on}
use Rattle.node_adoption.proofs.adopted.tell_flags.Given as goal

-- the flags on the first of them are told
abbrev pub invariant-loop-member : goal.invariant-loop-member
invariant-loop-member l = l.out.items ≡ l.fn.out.items ++ flat_map (adopted_on l.epoch l.view l.groups.resources) (take l.member-index l.member-items)
