use Rattle.std.proofs.Common.{◌≡◌, ℕ, ◌<◌, ◌≤◌, length, drop}
use Rattle.cell_pool.specs.Region.{walk, after, times, filled}
use Rattle.cell_pool.proofs.region.fill.Given as goal

abbrev pub invariant-loop-left : goal.invariant-loop-left
invariant-loop-left l = record {
  here_cells : 0 < l.left → l.cell < length l.cells;
  here_links : 0 < l.left → l.cell < length l.links;
  inside_cells : (c : ℕ) → 0 < times c (walk l.links l.cell l.left) → c < length l.cells;
  inside_links : (c : ℕ) → 0 < times c (walk l.links l.cell l.left) → c < length l.links;
  within : l.done ≤ length l.bytes;
  same : after l.links l.cell l.left ≡ after l.links l.first l.count;
  filled : filled l.cells (walk l.links l.cell l.left) (drop l.done l.bytes) ≡ filled l.initial.cells (walk l.links l.first l.count) l.bytes;
}

abbrev pub decreases-loop-left : goal.decreases-loop-left
decreases-loop-left l = l.left
