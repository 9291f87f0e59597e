use Rattle.std.proofs.Common.{◌≡◌, ◌++◌, take}
use Rattle.std.specs.List.{filter_map}
use Rattle.rg_deps.specs.Edges.{edge_to_group}
use Rattle.rg_deps.proofs.edges.push_dependencies.Given as goal

abbrev pub invariant-loop-name : goal.invariant-loop-name
invariant-loop-name l = l.edges.items ≡ l.fn.edges.items ++ filter_map (edge_to_group l.g l.place) (take l.name-index l.names)
