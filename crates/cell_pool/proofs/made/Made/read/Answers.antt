use Rattle.std.proofs.Common.{arith, ap, ◌∙◌, List, ℕ, sym, length}
use Rattle.cell_pool.specs.Cells.{cells_for}
use Rattle.cell_pool.proofs.Whole.{held_in, inside_of, read_gives, size_of}
use Rattle.cell_pool.specs.Made.{Making}
use Rattle.cell_pool.proofs.made.Made.read.Goals as goal

pub length_at-size-requires : goal.length_at-size-requires
length_at-size-requires c =
    let k = held_in _ _ _ _ _ _ _ _ c.self.invariant.whole (ap (λ (m : Making). m.pool) c.self.view_is) c.chain.view_is c.requires.in_use in
    rw c.deref.ensures.value k.low

pub copy_out-requires-clause-inside_cells : goal.copy_out-requires-clause-inside_cells
copy_out-requires-clause-inside_cells c =
    let k = held_in _ _ _ _ _ _ _ _ c.self.invariant.whole (ap (λ (m : Making). m.pool) c.self.view_is) c.chain.view_is c.requires.in_use in
    let size = size_of c.self.inside.lengths.items _ c.chain.inside.first _ c.deref.ensures.value c.length_at-size.ensures in
    inside_of _ _ _ _ _ _ c.deref-3.result.now c.cells_needed.result (length c.deref-2.result.now) k c.deref-3.ensures.value
    (c.cells_needed.ensures ∙ ap (λ (n : ℕ). cells_for n) size)
    (sym c.self.invariant.whole.a_cell_each ∙ ap (λ (l : List (List ℕ)). length l) (sym c.deref-2.ensures.value))

pub copy_out-requires-clause-inside_links : goal.copy_out-requires-clause-inside_links
copy_out-requires-clause-inside_links c =
    let k = held_in _ _ _ _ _ _ _ _ c.self.invariant.whole (ap (λ (m : Making). m.pool) c.self.view_is) c.chain.view_is c.requires.in_use in
    let size = size_of c.self.inside.lengths.items _ c.chain.inside.first _ c.deref.ensures.value c.length_at-size.ensures in
    inside_of _ _ _ _ _ _ c.deref-3.result.now c.cells_needed.result (length c.deref-3.result.now) k c.deref-3.ensures.value
    (c.cells_needed.ensures ∙ ap (λ (n : ℕ). cells_for n) size)
    (sym c.self.invariant.whole.a_link_each ∙ ap (λ (l : List ℕ). length l) (sym c.deref-3.ensures.value))

pub copy_out-requires-clause-room : goal.copy_out-requires-clause-room
copy_out-requires-clause-room c =
    let k = held_in _ _ _ _ _ _ _ _ c.self.invariant.whole (ap (λ (m : Making). m.pool) c.self.view_is) c.chain.view_is c.requires.in_use in
    let size = size_of c.self.inside.lengths.items _ c.chain.inside.first _ c.deref.ensures.value c.length_at-size.ensures in
    let e = size ∙ sym k.length_is in
    omega (arith, c.requires.room)

pub returns : goal.returns
returns c =
    let k = held_in _ _ _ _ _ _ _ _ c.self.invariant.whole (ap (λ (m : Making). m.pool) c.self.view_is) c.chain.view_is c.requires.in_use in
    let size = size_of c.self.inside.lengths.items _ c.chain.inside.first _ c.deref.ensures.value c.length_at-size.ensures in
    record {
      length = size ∙ sym k.length_is;
      bytes = read_gives _ _ _ _ _ _ c.deref-2.result.now c.deref-3.result.now c.cells_needed.result c.length_at-size.result c.args.out.now c.copy_out.new.out
          k c.deref-2.ensures.value c.deref-3.ensures.value (c.cells_needed.ensures ∙ ap (λ (n : ℕ). cells_for n) size) size c.copy_out.ensures;
    }
