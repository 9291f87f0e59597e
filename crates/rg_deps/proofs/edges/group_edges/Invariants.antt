use Rattle.std.proofs.Common.{◌≡◌, slice_get}
use Rattle.rg_deps.specs.Edges.{edges_of_group}
use Rattle.rg_deps.specs.Things.{collected}
use Rattle.rg_deps.proofs.edges.group_edges.Given as goal

abbrev pub invariant-loop-place : goal.invariant-loop-place
invariant-loop-place l = l.edges.items ≡ collected (λ p. edges_of_group l.g p (slice_get l.g.groups p)) l.place
