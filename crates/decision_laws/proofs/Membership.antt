-- Orders are safe whatever a president does in its membership.
use Rattle.std.proofs.Common.{List, [], ◌∷◌, fold}
use Rattle.decision_laws.specs.Membership.{Act, MayAct, MayAllAct, OrdersAreSafeThroughout, Reign, after_act, begun, Decide, Done, Asked, Updated}
use Rattle.decision_laws.specs.Safe.{HoldsOrders}
use Rattle.decision_laws.proofs.Asked.{asks_stay_safe}
use Rattle.decision_laws.proofs.Decided.{decisions_stay_safe, safe_at_first}
use Rattle.decision_laws.proofs.Done.{done_stays_safe}
use Rattle.decision_laws.proofs.Updated.{updates_stay_safe}

one_act : (r : Reign) (act : Act) → MayAct r act → HoldsOrders r.config r.president → HoldsOrders (after_act r act).config (after_act r act).president
one_act r (Decide now held_up) may h = decisions_stay_safe r.config now held_up r.president may h
one_act r (Done from number outcome now) may h = done_stays_safe r.config from number outcome now r.president h
one_act r (Asked from what now) may h = asks_stay_safe r.config from what now r.president may h
one_act r (Updated u new) may h = updates_stay_safe r.config new u r.president may h

all_acts : (acts : List Act) (r : Reign) → MayAllAct r acts → HoldsOrders r.config r.president → HoldsOrders (fold after_act r acts).config (fold after_act r acts).president
all_acts [] r may h = h
all_acts (act ∷ acts) r may h = all_acts acts (after_act r act) may.1 (one_act r act may.0 h)

pub safe_throughout : OrdersAreSafeThroughout
safe_throughout c e members reports now acts small may = all_acts acts (begun c e members reports now) may (safe_at_first c e members reports now small)
