-- A decision: goals, and then orders.
use Rattle.std.specs.Prelude.{ℕ, Bool, List, [], ◌∷◌, ◌++◌, Option, None, Some, fold, if◌then◌else◌}
use Rattle.cl_base.specs.declared.method.Method.{Method}
use Rattle.cl_base.specs.Limits.{most_nodes}
use Rattle.cl_base.specs.Numbers.{numbers_to}
use Rattle.rg_view.specs.declared.orders.Outstanding.{Outstanding}
use Rattle.rg_view.specs.declared.view.GroupView.{GroupView}
use Rattle.rg_view.specs.Orders.{order_of}
use Rattle.ccr_tables.specs.State.{ConfigState}
use Rattle.sequencer.specs.Fields.{OutlookFields}
use Rattle.sequencer.specs.Next.{next_call_of}
use Rattle.sequencer.specs.Outlooks.{outlook_of}
use Rattle.wire.specs.declared.message.Order.{Order}
use Rattle.rgm_president.specs.Goals.{with_goals}
use Rattle.rgm_president.specs.Sequence.{groups_in_order, sequence}
use Rattle.rgm_president.specs.State.{PresidentState, next_order, with_order}

-- what is kept so far, and the orders given so far, each with its node
pub record Turn : Type 0 where
  pub president : PresidentState
  pub orders : List (ℕ × Order)

-- what the calls rest on: the places that must go down, and those that may come up
abbrev pub outlook_over : ConfigState → List (List ℕ) → GroupView → OutlookFields
outlook_over c resources v = outlook_of c.groups c.types c.limits v resources

-- the first allowed call on the node: a resource and a method of it
abbrev pub call_on : ConfigState → List (List ℕ) → GroupView → ℕ → Option (List ℕ × Method)
call_on c resources v n = next_call_of c.groups c.types c.limits v (outlook_over c resources v) resources n

-- an order to the node, where there is a call for it
abbrev pub ordered : ℕ → Turn → Option (List ℕ × Method) → Turn
ordered n t None = t
ordered n t (Some call) = record {
  president = with_order t.president n call.0 (Some call.1);
  orders = t.orders ++ (n, next_order t.president call.0 (Some call.1)) ∷ [];
}

-- A node with an order gets no other.
abbrev pub ordered_unless : ConfigState → List (List ℕ) → ℕ → Turn → Option Outstanding → Turn
ordered_unless c resources n t None = ordered n t (call_on c resources t.president.view n)
ordered_unless c resources n t (Some o) = t

unfoldable pub with_turn : ConfigState → List (List ℕ) → Turn → ℕ → Turn
with_turn c resources t n = ordered_unless c resources n t (order_of t.president.view.outstanding n)

-- each of these nodes in order, the orders just given being outstanding
abbrev pub turns_of : ConfigState → List (List ℕ) → PresidentState → List ℕ → Turn
turns_of c resources p nodes = fold (with_turn c resources) (record { president = p; orders = [] }) nodes

-- the members in ascending order
unfoldable pub members_of : ℕ → List ℕ
members_of members = numbers_to members most_nodes

-- each member
unfoldable pub with_turns : ConfigState → List (List ℕ) → PresidentState → Turn
with_turns c resources p = turns_of c resources p (members_of p.view.members)

-- unless it is held up
unfoldable pub turns_unless : ConfigState → List (List ℕ) → Bool → PresidentState → Turn
turns_unless c resources held_up p = if held_up then record { president = p; orders = [] } else with_turns c resources p

-- the goals anew, at this second
unfoldable pub goals_set : ConfigState → List (List ℕ) → List (List ℕ) → ℕ → PresidentState → PresidentState
goals_set c groups resources now p = record p { view = with_goals c groups resources now p.view }

abbrev pub with_goals_of : ConfigState → ℕ → PresidentState → PresidentState
with_goals_of c now p = goals_set c (groups_in_order c.groups) (sequence c.groups) now p

-- The goals anew, at this second; and then, unless it is held up, orders.
abbrev pub decision : ConfigState → ℕ → Bool → PresidentState → Turn
decision c now held_up p = turns_unless c (sequence c.groups) held_up (with_goals_of c now p)
