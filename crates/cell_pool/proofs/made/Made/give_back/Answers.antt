use Rattle.std.proofs.Common.{arith, None, ap, ◌∙◌, List, ℕ, sym, length}
use Rattle.cell_pool.specs.Cells.{cells_for}
use Rattle.cell_pool.proofs.Whole.{held_in, inside_of, size_of}
use Rattle.cell_pool.proofs.All.{made_set, with_pool}
use Rattle.cell_pool.proofs.Moves.{back_leaves, back_shows, back_low}
use Rattle.cell_pool.specs.Made.{Making}
use Rattle.cell_pool.proofs.made.Made.give_back.Goals as goal

pub length_at-requires : goal.length_at-requires
length_at-requires c =
    let k = held_in _ _ _ _ _ _ _ _ c.self.invariant.whole (ap (λ (m : Making). m.pool) c.self.view_is) c.chain.view_is c.requires in
    rw c.deref.ensures.value k.low

pub last_cell-last-requires-clause-inside : goal.last_cell-last-requires-clause-inside
last_cell-last-requires-clause-inside c =
    let k = held_in _ _ _ _ _ _ _ _ c.self.invariant.whole (ap (λ (m : Making). m.pool) c.self.view_is) c.chain.view_is c.requires in
    let size = size_of c.self.inside.lengths.items _ c.chain.inside.first _ c.deref.ensures.value c.length_at.ensures in
    inside_of _ _ _ _ _ _ c.deref-2.result.now c.cells_needed-count.result (length c.deref-2.result.now) k c.deref-2.ensures.value
    (c.cells_needed-count.ensures ∙ ap (λ (n : ℕ). cells_for n) size)
    (sym c.self.invariant.whole.a_link_each ∙ ap (λ (l : List ℕ). length l) (sym c.deref-2.ensures.value))

pub index_mut-requires : goal.index_mut-requires
index_mut-requires c =
    let k = held_in _ _ _ _ _ _ _ _ c.self.invariant.whole (ap (λ (m : Making). m.pool) c.self.view_is) c.chain.view_is c.requires in
    let size = size_of c.self.inside.lengths.items _ c.chain.inside.first _ c.deref.ensures.value c.length_at.ensures in
    let low = back_low _ _ _ _ _ _ _ _ c.deref-2.result.now c.cells_needed-count.result c.last_cell-last.result c.self.invariant.whole k c.deref-2.ensures.value
    (c.cells_needed-count.ensures ∙ ap (λ (n : ℕ). cells_for n) size) c.last_cell-last.ensures in
    omega (arith, c.self.inside.links.ok)

pub index_mut-requires-2 : goal.index_mut-requires-2
index_mut-requires-2 c =
    let k = held_in _ _ _ _ _ _ _ _ c.self.invariant.whole (ap (λ (m : Making). m.pool) c.self.view_is) c.chain.view_is c.requires in
    let low = k.low in omega (arith, c.self.inside.lengths.ok)

pub invariant_of-self : goal.invariant_of-self
invariant_of-self c =
    let k = held_in _ _ _ _ _ _ _ _ c.self.invariant.whole (ap (λ (m : Making). m.pool) c.self.view_is) c.chain.view_is c.requires in
    let size = size_of c.self.inside.lengths.items _ c.chain.inside.first _ c.deref.ensures.value c.length_at.ensures in
    made_set c.self.inside.lengths.items c.chain.inside.first None c.self.invariant (back_leaves _ _ _ _ _ _ _ _ c.deref-2.result.now c.cells_needed-count.result c.last_cell-last.result c.self.invariant.whole k c.deref-2.ensures.value
    (c.cells_needed-count.ensures ∙ ap (λ (n : ℕ). cells_for n) size) c.last_cell-last.ensures)

pub returns : goal.returns
returns c =
    let k = held_in _ _ _ _ _ _ _ _ c.self.invariant.whole (ap (λ (m : Making). m.pool) c.self.view_is) c.chain.view_is c.requires in
    let size = size_of c.self.inside.lengths.items _ c.chain.inside.first _ c.deref.ensures.value c.length_at.ensures in
    with_pool _ _ _ c.self.inside.room c.args.self.now c.self.view_is
    (back_shows _ _ _ _ _ _ _ _ c.deref-2.result.now c.cells_needed-count.result c.last_cell-last.result c.args.self.now.pool c.args.chain c.self.invariant.whole k c.deref-2.ensures.value
    (c.cells_needed-count.ensures ∙ ap (λ (n : ℕ). cells_for n) size) c.last_cell-last.ensures (ap (λ (m : Making). m.pool) c.self.view_is) c.chain.view_is)
