use Rattle.std.proofs.Common.{◌-◌, ap, length, arith}
use Rattle.cell_pool.specs.Made.{Making}
use Rattle.cell_pool.proofs.Frames.{length-chains}
use Rattle.cell_pool.proofs.made.Made.unmade.Goals as goal

pub returns : goal.returns
returns c =
    let seen = ap (λ (m : Making). m.room - length m.pool) c.self.view_is in
    let size = length-chains c.self.inside.cells.items c.self.inside.links.items 0 c.self.inside.lengths.items in
    record { left = omega (arith, seen, size, c.len.ensures, c.self.inside.lengths.ok); few = rw (← c.self.view_is) c.self.invariant.few }
