use Rattle.std.proofs.Common.{◌≡◌, ℕ, ◌+◌, ◌-◌, ◌<◌, length}
use Rattle.cell_pool.specs.Region.{walk, after, times}
use Rattle.cell_pool.proofs.region.last_cell.Given as goal

abbrev pub invariant-loop-left : goal.invariant-loop-left
invariant-loop-left l = record {
  here : l.cell < length l.links;
  same : after l.links l.cell l.left ≡ after l.links l.first (l.count - 1);
  inside : (c : ℕ) → 0 < times c (walk l.links l.cell (l.left + 1)) → c < length l.links;
}

abbrev pub decreases-loop-left : goal.decreases-loop-left
decreases-loop-left l = l.left
