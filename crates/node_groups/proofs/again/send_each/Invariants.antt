use Rattle.std.proofs.Common.{◌≡◌, ◌++◌, take}
use Rattle.std.specs.List.{flat_map}
use Rattle.node_model.specs.Groups.{order_again}
use Rattle.node_groups.proofs.again.send_each.Given as goal

-- those so far are sent
abbrev pub invariant-loop-n : goal.invariant-loop-n
invariant-loop-n l = l.out.items ≡ l.fn.out.items ++ flat_map (order_again l.fn.due l.fn.presidency.groups) (take l.n-index l.members)
