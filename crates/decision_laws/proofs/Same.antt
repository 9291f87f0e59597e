-- Orders are as safe under another view that has the members, the orders and the flags of this one.
use Rattle.std.proofs.Common.{◌≡◌, ℕ, ◌-◌, ◌≤◌, ◌<◌, ◌==◌, ◌⊎◌, inl, inr, Bool, true, false, cond, get_or, set, length, Option, None, Some, List, refl, sym, ap, subst, ◌∙◌, arith}
use Rattle.std.proofs.lemmas.Bool.{cases_lt, eqb-true, eqb-false}
use Rattle.std.proofs.lemmas.List.{get_or_past, get_or-set_same, get_or-set_other}
use Rattle.std.proofs.lemmas.Option.{none-some}
use Rattle.cl_base.specs.Sets.{has}
use Rattle.load_limits.specs.declared.limits.Limit.{Limit}
use Rattle.rg_props.specs.Table.{GroupTable}
use Rattle.rg_view.specs.declared.orders.Outstanding.{Outstanding}
use Rattle.rg_view.specs.declared.view.GroupView.{GroupView}
use Rattle.rg_view.specs.Orders.{OrdersAfter, order_of}
use Rattle.rt_types.specs.Fields.{TypeFields}
use Rattle.sequencer_laws.specs.AllowedCall.{IsAllowedCall}
use Rattle.sequencer_laws.specs.Flags.{FlagMap}
use Rattle.sequencer_laws.specs.Orders.{OrdersAreSafe}
use Rattle.sequencer_laws.specs.Views.{MayStandFor, after_order, seen, then_seen}
use Rattle.decision_laws.specs.Safe.{AreOwn}

-- the second view has the members, orders and states of the first
pub record KeepsOrders (v w : GroupView) : Type 0 where
  pub members : w.members ≡ v.members
  pub orders : w.outstanding ≡ v.outstanding
  pub flags : (name : List ℕ) (n : ℕ) → seen w name n ≡ seen v name n

module _ (t : GroupTable) (types : List (List ℕ × TypeFields)) (limits : List Limit) (v w : GroupView) (same : KeepsOrders v w) where
  was_member : (k : ℕ) → has w.members k ≡ true → has v.members k ≡ true
  was_member k member = ap (λ (s : ℕ). has s k) (sym same.members) ∙ member

  stood : (map : FlagMap) → MayStandFor t types w map → MayStandFor t types v map
  stood map stands x k member = by (stands x k (ap (λ (s : ℕ). has s k) same.members ∙ member))
    where
      by : (map x k ≡ seen w x k) ⊎ (map x k ≡ after_order t types x (order_of w.outstanding k) (seen w x k)) → (map x k ≡ seen v x k) ⊎ (map x k ≡ then_seen t types v x k)
      by (inl e) = inl (e ∙ same.flags x k)
      by (inr e) = inr (e ∙ (λ i. after_order t types x (order_of (same.orders i) k) (same.flags x k i)))

  pub safe_still : OrdersAreSafe t types limits v → OrdersAreSafe t types limits w
  safe_still before k o m map member is method stands waits =
      subst (λ (ms : ℕ). IsAllowedCall (record { table = t; types = types; limits = limits; members = ms; flags = map }) k o.resource m) (sym same.members)
      (before k o m map (was_member k member) (ap (λ (l : List (Option Outstanding)). order_of l k) (sym same.orders) ∙ is) method (stood map stands) (waits ∙ same.flags o.resource k))

-- What each node has after one has another.

pub after_set : (orders : List (Option Outstanding)) (n : ℕ) (found : Option Outstanding) → 1 ≤ n → n ≤ length orders → OrdersAfter orders n found (set orders (n - 1) found)
after_set orders n found low high m at = by (n == m) refl
  where
    by : (b : Bool) → (n == m) ≡ b → get_or (set orders (n - 1) found) (m - 1) None ≡ cond b found (get_or orders (m - 1) None)
    by true e =
        let one : m ≡ n = sym (eqb-true n m e) in
        ap (λ (k : ℕ). get_or (set orders (n - 1) found) (k - 1) None) one ∙ get_or-set_same orders (n - 1) found None (omega (arith, low, high))
    by false e = get_or-set_other orders (n - 1) (m - 1) found None (λ same. eqb-false n m e (omega (arith, same, low, at)))

-- a node with an order has a place for it
pub has_place : (orders : List (Option Outstanding)) (n : ℕ) (o : Outstanding) → order_of orders n ≡ Some o → n ≤ length orders
has_place orders n o is = by (cases_lt (n - 1) (length orders))
  where
    by : ((n - 1) < length orders) ⊎ (length orders ≤ (n - 1)) → n ≤ length orders
    by (inl low) = omega (arith, low)
    by (inr high) = absurd (none-some o (sym (get_or_past orders (n - 1) None high) ∙ is))

-- an order of the node itself leaves orders at their nodes, and so does none
pub own_after : (old new : List (Option Outstanding)) (n : ℕ) (found : Option Outstanding) → ((o : Outstanding) → found ≡ Some o → o.node ≡ n) → AreOwn old → OrdersAfter old n found new → AreOwn new
own_after old new n found fits own after k o at is = by (n == k) refl (sym (after k at) ∙ is)
  where
    by : (b : Bool) → (n == k) ≡ b → cond b found (order_of old k) ≡ Some o → o.node ≡ k
    by true e is = fits o is ∙ eqb-true n k e
    by false e is = own k o at is
