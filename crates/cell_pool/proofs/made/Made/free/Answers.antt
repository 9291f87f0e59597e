use Rattle.std.proofs.Common.{◌≡◌, ◌+◌, subst, ap, ◌∙◌, List, Option, ℕ, length}
use Rattle.cell_pool.specs.Cells.{free_cells, used_cells}
use Rattle.cell_pool.proofs.Whole.{free_is, all_is}
use Rattle.cell_pool.specs.Made.{Making}
use Rattle.cell_pool.proofs.made.Made.free.Goals as goal

pub returns : goal.returns
returns c = record {
  value = free_is _ _ _ _ _ c.self.invariant.whole ∙ ap (λ (p : List (Option (List ℕ))). free_cells p) (ap (λ (m : Making). m.pool) c.self.view_is);
  all = subst (λ (p : List (Option (List ℕ))). used_cells p + c.self.inside.free_count ≡ length p) (ap (λ (m : Making). m.pool) c.self.view_is) (all_is _ _ _ _ _ c.self.invariant.whole);
}
