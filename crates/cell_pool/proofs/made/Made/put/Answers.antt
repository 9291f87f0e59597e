use Rattle.std.proofs.Common.{◌≤◌, Some, arith, ap, ◌∙◌, List, Option, ℕ, sym, length}
use Rattle.cell_pool.specs.Cells.{cells_for, free_cells}
use Rattle.cell_pool.specs.Region.{walk}
use Rattle.cell_pool.proofs.Whole.{free_is, some_cell}
use Rattle.cell_pool.proofs.All.{made_set, with_pool}
use Rattle.cell_pool.proofs.Moves.{takes, takes_in, put_vec, put_leaves, put_shows, fresh_place}
use Rattle.cell_pool.specs.Made.{Making}
use Rattle.cell_pool.proofs.made.Made.put.Goals as goal

pub returns-then-self-count-clause-exactly : goal.returns-then-self-count-clause-exactly
returns-then-self-count-clause-exactly c =
    let free = free_is _ _ _ _ _ c.self.invariant.whole ∙ ap (λ (p : List (Option (List ℕ))). free_cells p) (ap (λ (m : Making). m.pool) c.self.view_is) in
    omega arith

pub fill-self-inside-requires-clause-inside_cells : goal.fill-self-inside-requires-clause-inside_cells
fill-self-inside-requires-clause-inside_cells c =
    let few : cells_for (length c.args.bytes.now) ≤ c.self.inside.free_count = omega arith in
    let t = takes _ _ _ _ _ (cells_for (length c.args.bytes.now)) c.self.invariant.whole (some_cell (length c.args.bytes.now)) few in
    takes_in _ _ _ _ c.deref.result.now c.cells_needed-count.result (length c.deref_mut.result.now) t c.deref.ensures.value c.cells_needed-count.ensures
    (sym c.self.invariant.whole.a_cell_each ∙ ap (λ (l : List (List ℕ)). length l) (sym c.deref_mut.ensures.value))

pub fill-self-inside-requires-clause-inside_links : goal.fill-self-inside-requires-clause-inside_links
fill-self-inside-requires-clause-inside_links c =
    let few : cells_for (length c.args.bytes.now) ≤ c.self.inside.free_count = omega arith in
    let t = takes _ _ _ _ _ (cells_for (length c.args.bytes.now)) c.self.invariant.whole (some_cell (length c.args.bytes.now)) few in
    takes_in _ _ _ _ c.deref.result.now c.cells_needed-count.result (length c.deref.result.now) t c.deref.ensures.value c.cells_needed-count.ensures
    (sym c.self.invariant.whole.a_link_each ∙ ap (λ (l : List ℕ). length l) (sym c.deref.ensures.value))

pub index_mut-requires : goal.index_mut-requires
index_mut-requires c =
    let few : cells_for (length c.args.bytes.now) ≤ c.self.inside.free_count = omega arith in
    let t = takes _ _ _ _ _ (cells_for (length c.args.bytes.now)) c.self.invariant.whole (some_cell (length c.args.bytes.now)) few in
    let low = t.low in omega (arith, c.self.inside.lengths.ok)

pub invariant_of-self : goal.invariant_of-self
invariant_of-self c =
    let few : cells_for (length c.args.bytes.now) ≤ c.self.inside.free_count = omega arith in
    let cells = put_vec c.self.inside.cells.len c.self.inside.cells.items c.deref_mut.result.now c.fill-self-inside.new.cells
    (walk c.deref.result.now c.self.inside.free_first c.cells_needed-count.result) c.args.bytes.now c.self.inside.cells.ok.0
    c.deref_mut.ensures.value c.fill-self-inside.ensures.cells in
    made_set c.self.inside.lengths.items c.self.inside.free_first (Some (length c.args.bytes.now)) c.self.invariant
    (put_leaves _ _ _ _ _ c.args.bytes.now _ c.deref.result.now c.cells_needed-count.result c.fill-self-inside.result c.self.invariant.whole few
    c.deref.ensures.value c.cells_needed-count.ensures cells c.fill-self-inside.ensures.next)

pub returns-clause-exactly : goal.returns-clause-exactly
returns-clause-exactly c =
    let free = free_is _ _ _ _ _ c.self.invariant.whole ∙ ap (λ (p : List (Option (List ℕ))). free_cells p) (ap (λ (m : Making). m.pool) c.self.view_is) in
    omega arith

pub returns-clause-fresh : goal.returns-clause-fresh
returns-clause-fresh c =
    let few : cells_for (length c.args.bytes.now) ≤ c.self.inside.free_count = omega arith in
    let t = takes _ _ _ _ _ (cells_for (length c.args.bytes.now)) c.self.invariant.whole (some_cell (length c.args.bytes.now)) few in
    fresh_place _ _ _ _ _ c.args.self.now.pool t (ap (λ (m : Making). m.pool) c.self.view_is)

pub returns-clause-put : goal.returns-clause-put
returns-clause-put c =
    let few : cells_for (length c.args.bytes.now) ≤ c.self.inside.free_count = omega arith in
    let cells = put_vec c.self.inside.cells.len c.self.inside.cells.items c.deref_mut.result.now c.fill-self-inside.new.cells
    (walk c.deref.result.now c.self.inside.free_first c.cells_needed-count.result) c.args.bytes.now c.self.inside.cells.ok.0
    c.deref_mut.ensures.value c.fill-self-inside.ensures.cells in
    with_pool _ _ _ c.self.inside.room c.args.self.now c.self.view_is
    (put_shows _ _ _ _ _ c.args.bytes.now _ c.deref.result.now c.cells_needed-count.result c.args.self.now.pool c.self.invariant.whole few
    c.deref.ensures.value c.cells_needed-count.ensures cells (ap (λ (m : Making). m.pool) c.self.view_is))
