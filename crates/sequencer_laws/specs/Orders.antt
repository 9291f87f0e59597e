-- The law of outstanding orders: they are told of the methods that nodes are to call, one a node.
use Rattle.std.specs.Prelude.{◌≡◌, ◌⊎◌, ◌==◌, ℕ, true, false, List, Option, None, Some}
use Rattle.std.specs.List.{IsDistinct}
use Rattle.std.specs.Map.{keys_of}
use Rattle.std.specs.Str.{bytes_eq}
use Rattle.cl_base.specs.declared.method.Method.{Method}
use Rattle.cl_base.specs.Sets.{has}
use Rattle.load_limits.specs.declared.limits.Limit.{Limit}
use Rattle.rg_props.specs.Table.{GroupTable}
use Rattle.rg_view.specs.declared.orders.Outstanding.{Outstanding}
use Rattle.rg_view.specs.declared.view.GroupView.{GroupView}
use Rattle.rg_view.specs.Orders.{OrdersAfter, order_of}
use Rattle.rt_types.specs.Fields.{TypeFields}
use Rattle.sequencer.specs.Allowed.{is_allowed}
use Rattle.sequencer.specs.Outlooks.{outlook_of}
use Rattle.sequencer_laws.specs.AllowedCall.{IsAllowedCall}
use Rattle.sequencer_laws.specs.Flags.{FlagMap}
use Rattle.sequencer_laws.specs.Laws.{situation}
use Rattle.sequencer_laws.specs.Views.{MayStandFor, seen, then_seen}

-- Each outstanding order of a member is an allowed call over each map that the view may stand for and in which it has not succeeded yet.
abbrev pub OrdersAreSafe : GroupTable → List (List ℕ × TypeFields) → List Limit → GroupView → Type 0
OrdersAreSafe t types limits v = (n : ℕ) (o : Outstanding) (m : Method) (map : FlagMap) → has v.members n ≡ true → order_of v.outstanding n ≡ Some o → o.method ≡ Some m
    → MayStandFor t types v map → map o.resource n ≡ seen v o.resource n → IsAllowedCall (situation t types limits v map) n o.resource m

-- no two resources have one name
abbrev pub AreApart : GroupTable → Type 0
AreApart t = IsDistinct bytes_eq (keys_of t.resources)

-- an order with this number
abbrev pub order_for : ℕ → ℕ → List ℕ → Method → Outstanding
order_for n number name m = record { node = n; number = number; resource = name; method = Some m }

-- Where the premise holds of a configuration, a view and a node, an allowed call that is ordered is safe, and the orders of other nodes stay safe.
abbrev pub StaySafeWhere : (GroupTable → List (List ℕ × TypeFields) → List Limit → GroupView → ℕ → Type 0) → Type 0
StaySafeWhere Premise = (t : GroupTable) (types : List (List ℕ × TypeFields)) (limits : List Limit) (v : GroupView) (order : List (List ℕ)) (n number : ℕ) (name : List ℕ)
    (m : Method) (orders : List (Option Outstanding)) → Premise t types limits v n → is_allowed t types limits v (outlook_of t types limits v order) n name m ≡ true
    → OrdersAfter v.outstanding n (Some (order_for n number name m)) orders → OrdersAreSafe t types limits (record v { outstanding = orders })

-- The order of node n is done: each resource has there the flags that it had, or those that the order leaves; elsewhere nothing changes.
pub record IsDone (t : GroupTable) (types : List (List ℕ × TypeFields)) (v : GroupView) (n : ℕ) (w : GroupView) : Type 0 where
  pub members : w.members ≡ v.members
  pub orders : OrdersAfter v.outstanding n None w.outstanding
  pub there : (name : List ℕ) → (seen w name n ≡ seen v name n) ⊎ (seen w name n ≡ then_seen t types v name n)
  pub elsewhere : (name : List ℕ) (k : ℕ) → (k == n) ≡ false → seen w name k ≡ seen v name k

-- Then the orders of other nodes stay safe.
abbrev pub DoneIsSafe : Type 0
DoneIsSafe = (t : GroupTable) (types : List (List ℕ × TypeFields)) (limits : List Limit) (v w : GroupView) (n : ℕ) → IsDone t types v n w → OrdersAreSafe t types limits v
    → OrdersAreSafe t types limits w

-- an order with this number that calls no method: it clears marks
abbrev pub clear_for : ℕ → ℕ → List ℕ → Outstanding
clear_for n number name = record { node = n; number = number; resource = name; method = None }

-- Where marks are to be cleared on a node, the orders of other nodes stay safe.
abbrev pub ClearIsSafe : Type 0
ClearIsSafe = (t : GroupTable) (types : List (List ℕ × TypeFields)) (limits : List Limit) (v : GroupView) (n number : ℕ) (name : List ℕ) (orders : List (Option Outstanding))
    → OrdersAreSafe t types limits v → OrdersAfter v.outstanding n (Some (clear_for n number name)) orders → OrdersAreSafe t types limits (record v { outstanding = orders })
