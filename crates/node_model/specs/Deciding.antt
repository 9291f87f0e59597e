-- The president decides: the goals anew, and then orders to the members that have none.
use Rattle.std.specs.Prelude.{ℕ, ◌==◌, ◌^◌, nat_lt, Bool, true, false, List, [], ◌∷◌, Option, None, Some, fold, flat_map, if◌then◌else◌}
use Rattle.proposals.specs.declared.arrived.Arrived.{Arrived}
use Rattle.rgm_president.specs.Decisions.{Turn, decision}
use Rattle.rgm_president.specs.State.{PresidentState}
use Rattle.sent_orders.specs.Ages as ages
use Rattle.wire.specs.declared.message.Body.TheVariants as body
use Rattle.wire.specs.declared.message.Order.{Order}
use Rattle.node_model.specs.declared.cluster.Cluster.{Cluster}
use Rattle.node_model.specs.declared.node.UpNode.{UpNode}
use Rattle.node_model.specs.declared.output.Output.{Output}
use Rattle.node_model.specs.declared.output.Output.TheVariants.{Sends}
use Rattle.node_model.specs.declared.presidency.Presidency.{Presidency}
use Rattle.node_model.specs.Configurations.{in_force}
use Rattle.node_model.specs.Plans.{Plan}
use Rattle.node_model.specs.Plans.Plan.{Stays, Says}

-- Orders go to the other members. The president's own waits for its next tick.

abbrev pub order_sent : ℕ → ℕ × Order → List Output
order_sent me e = if e.0 == me then [] else Sends e.0 (body.Order e.1) ∷ []

unfoldable pub orders_sent : ℕ → List (ℕ × Order) → List Output
orders_sent me orders = flat_map (order_sent me) orders

abbrev pub age_with : ℕ → List (Option ℕ) → ℕ × Order → List (Option ℕ)
age_with me sent e = if e.0 == me then sent else ages.with_sent sent e.0

unfoldable pub all_sent : ℕ → List (Option ℕ) → List (ℕ × Order) → List (Option ℕ)
all_sent me sent orders = fold (age_with me) sent orders

-- No order is given while a request waits or is being handled.

abbrev pub is_any : List Arrived → Bool
is_any [] = false
is_any (a ∷ rest) = true

abbrev pub is_held_up : Presidency → Bool
is_held_up p = is_any p.proposals.arrived

-- orders have numbers below this
abbrev pub may_order : PresidentState → Bool
may_order p = nat_lt p.given (2 ^ 63)

abbrev pub with_turn : ℕ → Presidency → Turn → Presidency
with_turn me p t = record p { groups = t.president; sent = all_sent me p.sent t.orders }

abbrev pub decided : ℕ → UpNode → Presidency → Turn → Plan
decided me x p t = Says (orders_sent me t.orders) (Stays (record x { presidency = Some (with_turn me p t) }))

abbrev pub deciding_by : Cluster → ℕ → UpNode → Option Presidency → Plan
deciding_by c me x None = Stays x
deciding_by c me x (Some p) =
    if may_order p.groups then decided me x p (decision (in_force c x) x.second (is_held_up p) p.groups) else Stays x

abbrev pub deciding : Cluster → ℕ → UpNode → Plan
deciding c me x = deciding_by c me x x.presidency
