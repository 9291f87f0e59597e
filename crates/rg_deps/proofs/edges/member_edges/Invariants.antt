use Rattle.std.proofs.Common.{◌≡◌, slice_get}
use Rattle.rg_deps.specs.Edges.{member_edges_at}
use Rattle.rg_deps.specs.Things.{collected}
use Rattle.rg_deps.proofs.edges.member_edges.Given as goal

abbrev pub invariant-loop-place : goal.invariant-loop-place
invariant-loop-place l = l.edges.items ≡ collected (λ p. member_edges_at l.g l.group p (slice_get l.g.resources p)) l.place
