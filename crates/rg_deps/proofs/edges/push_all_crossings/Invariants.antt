use Rattle.std.proofs.Common.{◌≡◌, ◌++◌, slice_get}
use Rattle.rg_deps.specs.Edges.{crossing_edges_at}
use Rattle.rg_deps.specs.Things.{collected}
use Rattle.rg_deps.proofs.edges.push_all_crossings.Given as goal

abbrev pub invariant-loop-place : goal.invariant-loop-place
invariant-loop-place l = l.edges.items ≡ l.fn.edges.items ++ collected (λ p. crossing_edges_at l.g (slice_get l.g.resources p)) l.place
