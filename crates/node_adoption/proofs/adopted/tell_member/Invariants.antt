use Rattle.std.proofs.Common.{◌≡◌, ◌++◌, take}
use Rattle.node_model.specs.Attempts.{adopted_on}
use Rattle.node_adoption.proofs.adopted.tell_member.Given as goal

-- the first resources are told
abbrev pub invariant-loop-place : goal.invariant-loop-place
invariant-loop-place l = l.out.items ≡ l.fn.out.items ++ adopted_on l.epoch l.view (take l.place l.groups.resources) l.node
