-- What an outlook that is kept shows of the one that the rule gives: all that calls ask of it.
use Rattle.std.specs.Prelude.{◌≡◌, ℕ, true, List, None}
use Rattle.std.specs.List.{flat_map}
use Rattle.load_limits.specs.declared.limits.Limit.{Limit}
use Rattle.rg_props.specs.Settings.{has_name}
use Rattle.rg_props.specs.Table.{GroupTable}
use Rattle.rg_view.specs.declared.orders.Outstanding.{Outstanding}
use Rattle.rg_view.specs.declared.view.GroupView.{GroupView}
use Rattle.rg_view.specs.Marks.{is_marked}
use Rattle.rg_view.specs.Orders.{order_of, orders_with}
use Rattle.rt_types.specs.Fields.{TypeFields}
use Rattle.sequencer.specs.Fields.{OutlookFields}
use Rattle.sequencer.specs.Outlooks.{outlook_of}

-- the weak targets of all resources: for these alone it is asked whether they may come up
abbrev pub awaited : GroupTable → List (List ℕ)
awaited t = flat_map (λ e. e.1.weak) t.resources

-- It has the same members, the same places must go down, and the same places of weak targets may come up.
pub record Shows (t : GroupTable) (o found : OutlookFields) : Type 0 where
  pub members : o.members ≡ found.members
  pub for_down : (name : List ℕ) (n : ℕ) → is_marked o.for_down name n ≡ is_marked found.for_down name n
  pub for_up : (name : List ℕ) (n : ℕ) → is_marked o.for_up name n ≡ is_marked found.for_up name n
  pub rising : (name : List ℕ) (n : ℕ) → has_name name (awaited t) ≡ true → is_marked o.rising name n ≡ is_marked found.rising name n

-- the view with this order more
abbrev pub with_order : GroupView → Outstanding → GroupView
with_order v o = record v { outstanding = orders_with v.outstanding o }

-- Where the old outlook showed what the rule gave before an order for the resource was given to a node that had none, the new one shows what it gives now.
abbrev pub FollowsOrder : GroupTable → List (List ℕ × TypeFields) → List Limit → List (List ℕ) → List ℕ → GroupView → OutlookFields → OutlookFields → Type 0
FollowsOrder t types limits order name now old new =
    (v : GroupView) (o : Outstanding) → now ≡ with_order v o → o.resource ≡ name → order_of v.outstanding o.node ≡ None
    → Shows t old (outlook_of t types limits v order) → Shows t new (outlook_of t types limits now order)
