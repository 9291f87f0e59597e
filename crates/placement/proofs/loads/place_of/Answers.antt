use Rattle.std.proofs.Common.{arith}
use Rattle.placement.specs.Loads.{is_entry_of}
use Rattle.placement.proofs.Scans.{place_stops, place_goes_on, place_over}
use Rattle.placement.proofs.loads.place_of.Goals as goal

pub returns-then-is_listed_at : goal.returns-then-is_listed_at
returns-then-is_listed_at c = place_stops (is_entry_of c.args.name.now) c.args.goals.now c.loop-place.place c.is_listed_at.result (omega arith)
    c.loop-place.invariant c.is_listed_at.ensures c.if-is_listed_at.true

pub loop-place-preserved : goal.loop-place-preserved
loop-place-preserved c = place_goes_on (is_entry_of c.args.name.now) c.args.goals.now c.loop-place.place c.is_listed_at.result (omega arith)
    c.loop-place.invariant c.is_listed_at.ensures c.if-is_listed_at.false
