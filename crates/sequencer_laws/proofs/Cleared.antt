-- Where marks are to be cleared on a node, the orders of other nodes stay safe.
use Rattle.std.proofs.Common.{◌≡◌, ℕ, ◌==◌, ◌⊎◌, inl, inr, Bool, true, false, cond, Option, None, Some, List, refl, sym, ap, ◌∙◌}
use Rattle.std.specs.Str.{bytes_eq}
use Rattle.load_limits.specs.declared.limits.Limit.{Limit}
use Rattle.rg_props.specs.Table.{GroupTable}
use Rattle.rg_view.specs.declared.orders.Outstanding.{Outstanding}
use Rattle.rg_view.specs.declared.view.GroupView.{GroupView}
use Rattle.rg_view.specs.Orders.{OrdersAfter, order_of}
use Rattle.rt_types.specs.Fields.{TypeFields}
use Rattle.sequencer_laws.specs.AllowedCall.{IsAllowedCall}
use Rattle.sequencer_laws.specs.Flags.{FlagMap, Flags}
use Rattle.sequencer_laws.specs.Laws.{situation}
use Rattle.sequencer_laws.specs.Orders.{ClearIsSafe, OrdersAreSafe, clear_for}
use Rattle.sequencer_laws.specs.Views.{MayStandFor, after_order, seen}
use Rattle.sequencer_laws.proofs.Counts.{above_zero}

module _ (t : GroupTable) (types : List (List ℕ × TypeFields)) (limits : List Limit) (v : GroupView) (n number : ℕ) (name : List ℕ) (orders : List (Option Outstanding))
    (after : OrdersAfter v.outstanding n (Some (clear_for n number name)) orders) where
  abbrev given : Outstanding
  given = clear_for n number name

  clears_no_flag : (x : List ℕ) (f : Flags) → after_order t types x (Some given) f ≡ f
  clears_no_flag x f = by (bytes_eq name x)
    where
      by : (b : Bool) → cond b f f ≡ f
      by true = refl
      by false = refl

  stood : (map : FlagMap) → MayStandFor t types (record v { outstanding = orders }) map → MayStandFor t types v map
  stood map stands x k member = by (stands x k member)
    where
      Before : Type 0
      Before = (map x k ≡ seen v x k) ⊎ (map x k ≡ after_order t types x (order_of v.outstanding k) (seen v x k))

      under : (b : Bool) → b ≡ (n == k) → map x k ≡ after_order t types x (cond b (Some given) (order_of v.outstanding k)) (seen v x k) → Before
      under true is e = inl (e ∙ clears_no_flag x (seen v x k))
      under false is e = inr e

      by : (map x k ≡ seen v x k) ⊎ (map x k ≡ after_order t types x (order_of orders k) (seen v x k)) → Before
      by (inl e) = inl e
      by (inr e) = under (n == k) refl (e ∙ ap (λ (o : Option Outstanding). after_order t types x o (seen v x k)) (after k (above_zero v.members k member)))

  kept : OrdersAreSafe t types limits v → OrdersAreSafe t types limits (record v { outstanding = orders })
  kept before k o m map member is method stands waits = by (n == k) refl (sym (after k (above_zero v.members k member)) ∙ is)
    where
      by : (b : Bool) → b ≡ (n == k) → cond b (Some given) (order_of v.outstanding k) ≡ Some o → IsAllowedCall (situation t types limits v map) k o.resource m
      by true own is =
          let it : given ≡ o = cc in
          let none : None ≡ Some m = ap (λ (o : Outstanding). o.method) it ∙ method in
          absurd (cc)
      by false other is = before k o m map member is method (stood map stands) waits

pub clear_is_safe : ClearIsSafe
clear_is_safe t types limits v n number name orders before after = kept t types limits v n number name orders after before
