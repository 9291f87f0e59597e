use Rattle.std.proofs.Common.{arith, refl, sym}
use Rattle.world.proofs.Brings.{one_brought, passed_over}
use Rattle.world.proofs.world.World.bring_all.Goals as goal

pub loop-number-init : goal.loop-number-init
loop-number-init c = record {
  within = c.next_in_flight-number.ensures.high;
  brought = passed_over c.args.nodes 0 _ _ _ refl (omega arith) c.next_in_flight-number.ensures.between;
}

pub loop-number-preserved : goal.loop-number-preserved
loop-number-preserved c = record {
  within = c.next_in_flight-number-in-loop-number.ensures.high;
  brought = one_brought c.args.nodes c.loop-number.number _ _ _ _ c.loop-number.invariant.brought (sym c.in_ok-bring.ensures) (omega arith) c.next_in_flight-number-in-loop-number.ensures.between;
}
