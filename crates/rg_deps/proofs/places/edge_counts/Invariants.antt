use Rattle.std.proofs.Common.{◌≡◌, ℕ, ◌<◌, length, slice_index_or, take}
use Rattle.rg_deps.specs.Places.{edge_count}
use Rattle.rg_deps.proofs.places.edge_counts.Given as goal

abbrev pub invariant-loop-e : goal.invariant-loop-e
invariant-loop-e l = record {
  len : length l.counts.items ≡ l.fn.count;
  counts : (p : ℕ) → p < l.fn.count → slice_index_or l.counts.items p 0 ≡ edge_count (take l.e-index l.edges) p;
}
