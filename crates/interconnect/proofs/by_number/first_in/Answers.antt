use Rattle.std.proofs.Common.{rules, arith}
use Rattle.interconnect.proofs.Places.{ascending_pairs}
use Rattle.interconnect.proofs.FirstFrom.{passed, first_at}
use Rattle.interconnect.proofs.by_number.first_in.Goals as goal

pub place_from-place-requires : goal.place_from-place-requires
place_from-place-requires c = λ i k. ascending_pairs 1 c.requires.next c.args.places.now.items i k c.requires.rises

pub loop-place-init : goal.loop-place-init
loop-place-init c = record {
  within = c.place_from-place.ensures.within;
  from = c.place_from-place.ensures.from;
  passed = passed 1 c.requires.next c.args.places.now.items c.args.number c.place_from-place.result c.requires.rises c.place_from-place.ensures.within c.place_from-place.ensures.below;
}

pub returns-then-is_some : goal.returns-then-is_some
returns-then-is_some c =
    first_at 1 c.requires.next c.args.places.now.items c.args.number c.loop-place.place c.index-here.result.now c.requires.rises (omega arith) c.index-here.ensures
    (c.loop-place.invariant.from c.loop-place.place (omega arith) (omega arith)) (search rules) c.loop-place.invariant.passed
