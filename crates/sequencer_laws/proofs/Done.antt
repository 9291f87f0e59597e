-- Once an order is done, the orders of other nodes stay safe.
use Rattle.std.proofs.Common.{◌≡◌, ◌≢◌, ℕ, ◌==◌, ◌⊎◌, inl, inr, true, false, cond, Option, None, Some, List, refl, sym, ap, subst, ◌∙◌}
use Rattle.std.proofs.lemmas.Bool.{eq-eqb, ne_eqb}
use Rattle.std.proofs.lemmas.Bool.Decides.{eqb_tells}
use Rattle.cl_base.specs.declared.method.Method.{Method}
use Rattle.cl_base.specs.Sets.{has}
use Rattle.load_limits.specs.declared.limits.Limit.{Limit}
use Rattle.rg_props.specs.Table.{GroupTable}
use Rattle.rg_view.specs.declared.orders.Outstanding.{Outstanding}
use Rattle.rg_view.specs.declared.view.GroupView.{GroupView}
use Rattle.rg_view.specs.Orders.{order_of}
use Rattle.rt_types.specs.Fields.{TypeFields}
use Rattle.sequencer_laws.specs.AllowedCall.{IsAllowedCall}
use Rattle.sequencer_laws.specs.Flags.{FlagMap}
use Rattle.sequencer_laws.specs.Laws.{situation}
use Rattle.sequencer_laws.specs.Orders.{DoneIsSafe, IsDone, OrdersAreSafe}
use Rattle.sequencer_laws.specs.Views.{MayStandFor, after_order, seen, then_seen}
use Rattle.sequencer_laws.proofs.Counts.{above_zero}

module _ (t : GroupTable) (types : List (List ℕ × TypeFields)) (limits : List Limit) (v w : GroupView) (n : ℕ) (done : IsDone t types v n w) where
  -- a map that the view may stand for then is one that it might stand for before
  stood : (map : FlagMap) → MayStandFor t types w map → MayStandFor t types v map
  stood map stands x k member = by (eqb_tells k n) (stands x k (subst (λ (ms : ℕ). has ms k ≡ true) (sym done.members) member))
    where
      Before : Type 0
      Before = (map x k ≡ seen v x k) ⊎ (map x k ≡ then_seen t types v x k)

      order_at : order_of w.outstanding k ≡ cond (n == k) None (order_of v.outstanding k)
      order_at = done.orders k (above_zero v.members k member)

      here : k ≡ n → map x k ≡ seen w x k → (seen w x n ≡ seen v x n) ⊎ (seen w x n ≡ then_seen t types v x n) → Before
      here at e (inl as_before) = inl (e ∙ subst (λ (j : ℕ). seen w x j ≡ seen v x j) (sym at) as_before)
      here at e (inr as_left) = inr (e ∙ subst (λ (j : ℕ). seen w x j ≡ then_seen t types v x j) (sym at) as_left)

      by : ((k == n) ≡ true) × (k ≡ n) ⊎ ((k == n) ≡ false) × (k ≢ n) → (map x k ≡ seen w x k) ⊎ (map x k ≡ after_order t types x (order_of w.outstanding k) (seen w x k)) → Before
      by (inl (test, at)) (inl e) = here at e (done.there x)
      by (inl (test, at)) (inr e) =
          let none : order_of w.outstanding k ≡ None = order_at ∙ rw (eq-eqb n k (sym at)) refl in
          here at (e ∙ ap (λ (o : Option Outstanding). after_order t types x o (seen w x k)) none) (done.there x)
      by (inr (test, away)) (inl e) = inl (e ∙ done.elsewhere x k test)
      by (inr (test, away)) (inr e) =
          let same : order_of w.outstanding k ≡ order_of v.outstanding k = order_at ∙ rw (ne_eqb n k (λ is. away (sym is))) refl in
          inr (e ∙ (λ i. after_order t types x (same i) (done.elsewhere x k test i)))

  module _ (k : ℕ) (o : Outstanding) (m : Method) (map : FlagMap) (member : has v.members k ≡ true) (method : o.method ≡ Some m) (stands : MayStandFor t types w map)
      (waits : map o.resource k ≡ seen w o.resource k) (before : OrdersAreSafe t types limits v) where
    still : (k == n) ≡ false → order_of v.outstanding k ≡ Some o → IsAllowedCall (situation t types limits w map) k o.resource m
    still away is =
        subst (λ (ms : ℕ). IsAllowedCall (record { table = t; types = types; limits = limits; members = ms; flags = map }) k o.resource m) (sym done.members)
        (before k o m map member is method (stood map stands) (waits ∙ done.elsewhere o.resource k away))

    kept : order_of w.outstanding k ≡ Some o → IsAllowedCall (situation t types limits w map) k o.resource m
    kept is = by (eqb_tells k n)
      where
        order_at : order_of w.outstanding k ≡ cond (n == k) None (order_of v.outstanding k)
        order_at = done.orders k (above_zero v.members k member)

        by : ((k == n) ≡ true) × (k ≡ n) ⊎ ((k == n) ≡ false) × (k ≢ n) → IsAllowedCall (situation t types limits w map) k o.resource m
        by (inl (test, at)) =
            let none : order_of w.outstanding k ≡ None = order_at ∙ rw (eq-eqb n k (sym at)) refl in
            absurd (let gone : None ≡ Some o = sym none ∙ is in cc)
        by (inr (test, away)) =
            let same : order_of w.outstanding k ≡ order_of v.outstanding k = order_at ∙ rw (ne_eqb n k (λ e. away (sym e))) refl in
            still test (sym same ∙ is)

pub done_is_safe : DoneIsSafe
done_is_safe t types limits v w n done before k o m map member is method stands waits =
    kept t types limits v w n done k o m map (subst (λ (ms : ℕ). has ms k ≡ true) done.members member) method stands waits before is
