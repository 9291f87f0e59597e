use Rattle.std.proofs.Common.{◌≡◌, ◌++◌, take}
use Rattle.std.specs.List.{filter_map}
use Rattle.rg_deps.specs.Edges.{edge, member_place}
use Rattle.rg_deps.proofs.edges.push_members.Given as goal

abbrev pub invariant-loop-name : goal.invariant-loop-name
invariant-loop-name l = l.edges.items ≡ l.fn.edges.items ++ filter_map (λ name. edge l.place (member_place l.g l.group name)) (take l.name-index l.names)
