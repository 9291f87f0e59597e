use Rattle.std.proofs.Common.{arith, refl}
use Rattle.cell_pool.proofs.All.{fewer, is_made_more, made_view}
use Rattle.cell_pool.proofs.made.Made.make.Goals as goal

pub push_reserved-requires : goal.push_reserved-requires
push_reserved-requires c =
    let low = fewer c.self.inside.cells.items c.self.inside.links.items c.self.inside.lengths.items c.self.inside.room c.args.self.now c.self.view_is c.requires in
    omega (arith, c.self.inside.cells.ok, c.self.invariant.whole.a_cell_each, c.self.invariant.of_cells)

pub push_reserved-requires-2 : goal.push_reserved-requires-2
push_reserved-requires-2 c =
    let low = fewer c.self.inside.cells.items c.self.inside.links.items c.self.inside.lengths.items c.self.inside.room c.args.self.now c.self.view_is c.requires in
    omega (arith, c.self.inside.links.ok, c.self.invariant.whole.a_link_each, c.self.invariant.of_links)

pub push_reserved-requires-3 : goal.push_reserved-requires-3
push_reserved-requires-3 c =
    let low = fewer c.self.inside.cells.items c.self.inside.links.items c.self.inside.lengths.items c.self.inside.room c.args.self.now c.self.view_is c.requires in
    omega (arith, c.self.inside.lengths.ok, c.self.invariant.of_lengths)

pub invariant_of-self : goal.invariant_of-self
invariant_of-self c =
    let low = fewer c.self.inside.cells.items c.self.inside.links.items c.self.inside.lengths.items c.self.inside.room c.args.self.now c.self.view_is c.requires in
    is_made_more c.self.inside.cells.items c.push_reserved.new.self.items c.self.inside.links.items c.push_reserved-2.new.self.items
    c.self.inside.lengths.items c.push_reserved-3.new.self.items c.self.inside.free_first c.self.inside.free_count c.len-cell.result c.self.inside.room
    _ _ _ _ _ _ _ c.self.invariant low (omega (arith, c.len-cell.ensures, c.self.inside.lengths.ok)) refl
    c.push_reserved.ensures.items c.push_reserved-2.ensures.items c.push_reserved-3.ensures.items
    c.push_reserved.ensures.capacity c.push_reserved-2.ensures.capacity c.push_reserved-3.ensures.capacity

pub returns : goal.returns
returns c =
    made_view c.self.inside.cells.items c.push_reserved.new.self.items c.self.inside.links.items c.push_reserved-2.new.self.items
    c.self.inside.lengths.items c.push_reserved-3.new.self.items c.self.inside.free_first c.self.inside.free_count c.self.inside.room _ c.args.self.now
    c.self.invariant.whole c.push_reserved.ensures.items c.push_reserved-2.ensures.items c.push_reserved-3.ensures.items c.self.view_is
