use Rattle.std.proofs.Common.{◌≡◌, ℕ, ◌+◌, ◌-◌, ◌*◌, ◌<◌, ◌≤◌, ◌++◌, length, take, drop}
use Rattle.cell_pool.specs.Region.{walk, times, content}
use Rattle.cell_pool.proofs.region.copy_out.Given as goal

abbrev pub invariant-loop-left : goal.invariant-loop-left
invariant-loop-left l = record {
  here_cells : 0 < l.left → l.cell < length l.cells;
  here_links : 0 < l.left → l.cell < length l.links;
  inside_cells : (c : ℕ) → 0 < times c (walk l.links l.cell l.left) → c < length l.cells;
  inside_links : (c : ℕ) → 0 < times c (walk l.links l.cell l.left) → c < length l.links;
  within : l.done ≤ l.size;
  enough : l.size ≤ l.done + 256 * l.left;
  front : take l.done l.out ++ take (l.size - l.done) (content l.cells (walk l.links l.cell l.left))
      ≡ take l.size (content l.cells (walk l.links l.first l.count));
  back : drop l.size l.out ≡ drop l.size l.initial.out;
}

abbrev pub decreases-loop-left : goal.decreases-loop-left
decreases-loop-left l = l.left
