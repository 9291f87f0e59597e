use Rattle.std.proofs.Common.{◌≡◌, ◌++◌, take}
use Rattle.std.specs.List.{filter_map}
use Rattle.rg_deps.specs.Edges.{crossing, edge}
use Rattle.rg_deps.proofs.edges.push_crossings.Given as goal

abbrev pub invariant-loop-name : goal.invariant-loop-name
invariant-loop-name l = l.edges.items ≡ l.fn.edges.items ++ filter_map (λ name. edge l.place (crossing l.g l.group name)) (take l.name-index l.names)
