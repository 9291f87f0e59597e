use Rattle.std.proofs.Common.{◌+◌, ◌-◌, ◌/◌, arith}
use Rattle.interconnect.proofs.Places.{below_more, from_more}
use Rattle.interconnect.proofs.by_number.place_from.Goals as goal

pub loop-low-preserved-then-index-number : goal.loop-low-preserved-then-index-number
loop-low-preserved-then-index-number c =
    let w = c.loop-low.invariant.within in
    let t = c.loop-low.invariant.top in
    record {
      within = omega arith;
      top = t;
      below = below_more c.args.places.now.items (c.loop-low.low + (c.loop-low.high - c.loop-low.low) / 2) c.args.number c.index.result.now c.requires (omega arith) c.index.ensures c.if-index-number.true;
      from = c.loop-low.invariant.from;
    }

pub loop-low-preserved : goal.loop-low-preserved
loop-low-preserved c =
    let w = c.loop-low.invariant.within in
    let t = c.loop-low.invariant.top in
    record {
      within = omega arith;
      top = omega arith;
      below = c.loop-low.invariant.below;
      from = from_more c.args.places.now.items (c.loop-low.low + (c.loop-low.high - c.loop-low.low) / 2) c.args.number c.index.result.now c.requires (omega arith) c.index.ensures (omega (arith, c.if-index-number.false));
    }
