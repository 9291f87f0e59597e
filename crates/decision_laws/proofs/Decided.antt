-- A decision leaves orders safe: its goals change no flag, and each order that it gives is of an allowed call.
use Rattle.std.proofs.Common.{◌≡◌, ℕ, ◌+◌, ◌-◌, ◌≤◌, ◌<◌, true, false, replicate, get_or, Option, None, Some, List, [], ◌∷◌, refl, sym, ap, subst, ◌∙◌, ◌⊎◌, inl, inr, arith}
use Rattle.std.proofs.lemmas.Bool.{cases_lt}
use Rattle.std.proofs.lemmas.List.{get_or-replicate, get_or_past, length-replicate, length-set}
use Rattle.std.proofs.lemmas.Option.{none-some}
use Rattle.cl_base.specs.declared.method.Method.{Method}
use Rattle.cl_base.specs.Limits.{most_nodes}
use Rattle.cl_base.specs.Numbers.{numbers_to}
use Rattle.cl_base.specs.Sets.{has}
use Rattle.rg_view.specs.declared.orders.Outstanding.{Outstanding}
use Rattle.rg_view.specs.Orders.{OrdersAfter, no_orders, order_of, orders_with}
use Rattle.ccr_tables.specs.State.{ConfigState}
use Rattle.wire.specs.declared.message.Order.{Order}
use Rattle.sequencer_laws.specs.Laws.{GoalsAreManaged}
use Rattle.sequencer_laws.specs.Orders.{AreApart, order_for}
use Rattle.sequencer_laws.proofs.Counts.{above_zero, within_most}
use Rattle.sequencer_laws.proofs.Ordered.{orders_stay_safe}
use Rattle.rgm_president.specs.Decisions.{decision, goals_set, turns_unless, with_goals_of}
use Rattle.rgm_president.specs.Goals.{with_decided, with_ended, with_goals, with_listed}
use Rattle.rgm_president.specs.Sequence.{groups_in_order, sequence}
use Rattle.rgm_president.specs.State.{PresidentState, with_order}
use Rattle.president_laws.specs.Laws.{IsAllowedNow, MayAllBeGiven, MayBeGiven}
use Rattle.president_laws.proofs.Decisions.{orders_are_allowed}
use Rattle.decision_laws.specs.Safe.{DecidedGoalsAreManaged, DecisionsStaySafe, HoldsOrders, SafeAtFirst}
use Rattle.decision_laws.proofs.Asked.{holds_still}
use Rattle.decision_laws.proofs.Managed.{goals_are_managed}
use Rattle.decision_laws.proofs.Same.{KeepsOrders, after_set, own_after}
use Rattle.decision_laws.proofs.States.{ended_keeps}

-- the goals change no flag
pub goals_keep : (c : ConfigState) (now : ℕ) (p : PresidentState) → KeepsOrders p.view (with_goals_of c now p).view
unfolding goals_set with_goals with_ended with_decided with_listed
goals_keep c now p = record {
  members = refl;
  orders = refl;
  flags = λ name n. ended_keeps name n c.groups (with_decided c (groups_in_order c.groups) (with_listed (groups_in_order c.groups) now p.view)).goals
      (numbers_to p.view.members most_nodes) (sequence c.groups) p.view.resources;
}

goals_hold : (c : ConfigState) (now : ℕ) (p : PresidentState) → HoldsOrders c p → HoldsOrders c (with_goals_of c now p)
unfolding goals_set
goals_hold c now p h = holds_still c p (with_goals_of c now p).view (goals_keep c now p) h

module _ (c : ConfigState) (apart : AreApart c.groups) where
  -- one order more
  one_more : (p : PresidentState) (n : ℕ) (r : List ℕ) (m : Method) → has p.view.members n ≡ true → order_of p.view.outstanding n ≡ None → IsAllowedNow c p n r (Some m)
      → GoalsAreManaged c.groups p.view → HoldsOrders c p → HoldsOrders c (with_order p n r (Some m))
  one_more p n r m member free allowed managed h = record {
    members = h.members;
    places = length-set p.view.outstanding (n - 1) (Some given) ∙ h.places;
    own = own_after p.view.outstanding orders n (Some given) of_node h.own after;
    safe = orders_stay_safe c.groups c.types c.limits p.view (sequence c.groups) n (p.given + 1) r m orders (free, managed, h.members, apart, h.safe) allowed after;
  }
    where
      given : Outstanding
      given = order_for n (p.given + 1) r m

      orders : List (Option Outstanding)
      orders = orders_with p.view.outstanding given

      after : OrdersAfter p.view.outstanding n (Some given) orders
      after = after_set p.view.outstanding n (Some given) (above_zero p.view.members n member) (omega (arith, within_most p.view.members n h.members member, h.places))

      of_node : (o : Outstanding) → Some given ≡ Some o → o.node ≡ n
      of_node o is = let it : given ≡ o = cc in ap (λ (x : Outstanding). x.node) (sym it)

  given_holds : (p : PresidentState) (n : ℕ) (o : Order) → MayBeGiven c p n o → GoalsAreManaged c.groups p.view → HoldsOrders c p → HoldsOrders c (with_order p n o.resource o.method)
  given_holds p n o may managed h = by o.method may.allowed
    where
      by : (m : Option Method) → IsAllowedNow c p n o.resource m → HoldsOrders c (with_order p n o.resource m)
      by None allowed = absurd allowed
      by (Some m) allowed = one_more p n o.resource m may.member may.free allowed managed h

  all_hold : (es : List (ℕ × Order)) (last : ℕ) (p new : PresidentState) → MayAllBeGiven c last p es new → GoalsAreManaged c.groups p.view → HoldsOrders c p → HoldsOrders c new
  all_hold [] last p new same managed h = subst (HoldsOrders c) (sym same) h
  all_hold (e ∷ es) last p new (up, may, rest) managed h = all_hold es e.0 (with_order p e.0 e.1.resource e.1.method) new rest managed (given_holds p e.0 e.1 may managed h)

pub decisions_stay_safe : DecisionsStaySafe
unfolding turns_unless
decisions_stay_safe c now true p apart h = goals_hold c now p h
decisions_stay_safe c now false p apart h =
    all_hold c apart (decision c now false p).orders 0 (with_goals_of c now p) (decision c now false p).president (orders_are_allowed c now p) (goals_are_managed c now p) (goals_hold c now p h)

-- orders leave goals as they are
goals_left : (c : ConfigState) (es : List (ℕ × Order)) (last : ℕ) (p new : PresidentState) → MayAllBeGiven c last p es new → GoalsAreManaged c.groups p.view → GoalsAreManaged c.groups new.view
goals_left c [] last p new same managed = subst (λ (q : PresidentState). GoalsAreManaged c.groups q.view) (sym same) managed
goals_left c (e ∷ es) last p new (up, may, rest) managed = goals_left c es e.0 (with_order p e.0 e.1.resource e.1.method) new rest managed

pub decided_goals_are_managed : DecidedGoalsAreManaged
unfolding turns_unless
decided_goals_are_managed c now true p = goals_are_managed c now p
decided_goals_are_managed c now false p = goals_left c (decision c now false p).orders 0 (with_goals_of c now p) (decision c now false p).president (orders_are_allowed c now p) (goals_are_managed c now p)

-- As a membership begins there is no order.

none_at : (n : ℕ) → order_of no_orders n ≡ None
none_at n = by (cases_lt (n - 1) 32)
  where
    none : Option Outstanding
    none = None

    by : ((n - 1) < 32) ⊎ (32 ≤ (n - 1)) → get_or (replicate 32 none) (n - 1) none ≡ none
    by (inl low) = get_or-replicate 32 (n - 1) none none low
    by (inr high) = get_or_past (replicate 32 none) (n - 1) none (omega (arith, high, length-replicate 32 none))

pub safe_at_first : SafeAtFirst
safe_at_first c e members reports now small = record {
  members = small;
  places = refl;
  own = λ n o at is. absurd (none-some o (sym (none_at n) ∙ is));
  safe = λ n o m map member is method stands waits. absurd (none-some o (sym (none_at n) ∙ is));
}
