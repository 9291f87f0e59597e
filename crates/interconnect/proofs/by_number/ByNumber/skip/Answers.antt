use Rattle.std.proofs.Common.{◌++◌}
use Rattle.interconnect.proofs.Places.{ascending_next}
use Rattle.interconnect.proofs.by_number.ByNumber.skip.Goals as goal

pub invariant_of-self : goal.invariant_of-self
invariant_of-self c =
    let k = c.self.invariant in
    record { ascending = ascending_next 1 c.self.inside.next (c.self.inside.swept.items ++ c.self.inside.unswept.items) k.ascending; roomy = k.roomy; room = k.room; room_behind = k.room_behind }
