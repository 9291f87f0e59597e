use Rattle.std.proofs.Common.{◌≡◌, ◌++◌, take}
use Rattle.std.specs.List.{filter_map}
use Rattle.rg_deps.specs.Edges.{edge_of_affinity}
use Rattle.rg_deps.proofs.edges.push_affinities.Given as goal

abbrev pub invariant-loop-a : goal.invariant-loop-a
invariant-loop-a l = l.edges.items ≡ l.fn.edges.items ++ filter_map (edge_of_affinity l.g l.place) (take l.a-index l.affinities)
