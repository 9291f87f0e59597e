-- What a decision sends: an order to each member at most.
use Rattle.std.specs.Prelude.{ℕ, ◌+◌, ◌≤◌, ◌==◌, Bool, List, [], ◌∷◌, Option, None, Some, IfSome, flat_map, fold, length}
use Rattle.std.proofs.Common.{arith}
use Rattle.std.proofs.lemmas.List.{length-append}
use Rattle.cl_base.specs.declared.method.Method.{Method}
use Rattle.ccr_tables.specs.State.{ConfigState}
use Rattle.cmm_attempt.proofs.Basics.{if_either}
use Rattle.rg_view.specs.declared.orders.Outstanding.{Outstanding}
use Rattle.rg_view.specs.Orders.{order_of}
use Rattle.rgm_president.specs.Decisions.{Turn, call_on, decision, members_of, ordered, ordered_unless, turns_unless, with_goals_of, with_turn, with_turns}
use Rattle.rgm_president.specs.Sequence.{sequence}
use Rattle.rgm_president.specs.State.{PresidentState, next_order}
use Rattle.wire.specs.declared.message.Body.TheVariants as body
use Rattle.wire.specs.declared.message.Order.{Order}
use Rattle.node_model.specs.declared.cluster.Cluster.{Cluster}
use Rattle.node_model.specs.declared.node.UpNode.{UpNode}
use Rattle.node_model.specs.declared.output.Output.TheVariants.{Sends}
use Rattle.node_model.specs.declared.presidency.Presidency.{Presidency}
use Rattle.node_model.specs.Configurations.{in_force}
use Rattle.node_model.specs.Deciding as deciding
use Rattle.node_model.specs.Deciding.{is_held_up, may_order, order_sent, orders_sent}
use Rattle.node_model.specs.Plans.Plan.{Stays}
use Rattle.refinement.specs.node_bounds.Bounded.{OfficeIsBounded, UpIsBounded}
use Rattle.refinement.specs.node_bounds.Sends.{sends_of}
use Rattle.refinement.proofs.node_bounds.Counts.{numbers_few, sends_append}
use Rattle.refinement.proofs.node_bounds.Plans.{Costs, either_costs, stays}

-- A decision gives an order to each member at most.

ordered_few : (k n : ℕ) (t : Turn) (call : Option (List ℕ × Method)) → length t.orders ≤ k → length (ordered n t call).orders ≤ k + 1
ordered_few k n t None h = omega (arith, h)
ordered_few k n t (Some call) h = omega (arith, h, length-append t.orders ((n, next_order t.president call.0 (Some call.1)) ∷ []))

unless_few : (c : ConfigState) (resources : List (List ℕ)) (k n : ℕ) (t : Turn) (o : Option Outstanding) → length t.orders ≤ k → length (ordered_unless c resources n t o).orders ≤ k + 1
unless_few c resources k n t None h = ordered_few k n t (call_on c resources t.president.view n) h
unless_few c resources k n t (Some o) h = omega (arith, h)

turn_few : (c : ConfigState) (resources : List (List ℕ)) (k : ℕ) (t : Turn) (n : ℕ) → length t.orders ≤ k → length (with_turn c resources t n).orders ≤ k + 1
unfolding with_turn
turn_few c resources k t n h = unless_few c resources k n t (order_of t.president.view.outstanding n) h

turns_few : (c : ConfigState) (resources : List (List ℕ)) (ns : List ℕ) (k : ℕ) (t : Turn) → length t.orders ≤ k → length (fold (with_turn c resources) t ns).orders ≤ k + length ns
turns_few c resources [] k t h = omega (arith, h)
turns_few c resources (n ∷ ns) k t h = omega (arith, turns_few c resources ns (k + 1) (with_turn c resources t n) (turn_few c resources k t n h))

all_few : (c : ConfigState) (p : PresidentState) → length (with_turns c (sequence c.groups) p).orders ≤ 32
unfolding with_turns members_of
all_few c p =
    omega (arith, turns_few c (sequence c.groups) (members_of p.view.members) 0 (record { president = p; orders = [] }) (omega arith), numbers_few p.view.members 32)

decision_few : (c : ConfigState) (now : ℕ) (held_up : Bool) (p : PresidentState) → length (decision c now held_up p).orders ≤ 32
unfolding turns_unless
decision_few c now held_up p =
    if_either (λ (t : Turn). length t.orders ≤ 32) held_up (record { president = with_goals_of c now p; orders = [] }) (with_turns c (sequence c.groups) (with_goals_of c now p))
    (omega arith) (all_few c (with_goals_of c now p))

-- They are sent.

one_sent : (n : ℕ) (e : ℕ × Order) → sends_of (order_sent n e) ≤ 1
one_sent n e = if_either (λ os. sends_of os ≤ 1) (e.0 == n) [] (Sends e.0 (body.Order e.1) ∷ []) (omega arith) (omega arith)

all_sent : (n : ℕ) (orders : List (ℕ × Order)) → sends_of (flat_map (order_sent n) orders) ≤ length orders
all_sent n [] = omega arith
all_sent n (e ∷ orders) = omega (arith, sends_append (order_sent n e) (flat_map (order_sent n) orders), one_sent n e, all_sent n orders)

pub orders_few : (n : ℕ) (orders : List (ℕ × Order)) (k : ℕ) → length orders ≤ k → sends_of (orders_sent n orders) ≤ k
unfolding orders_sent
orders_few n orders k h = omega (arith, all_sent n orders, h)

decided_costs : (n : ℕ) (x : UpNode) (p : Presidency) (t : Turn) → length t.orders ≤ 32 → OfficeIsBounded p → UpIsBounded x → Costs 32 (deciding.decided n x p t)
decided_costs n x p t few office h =
    record { few = omega (arith, orders_few n t.orders 32 few); ends = record { own = h.own; few = h.few; presides = office } }

decides_by : (c : Cluster) (n : ℕ) (x : UpNode) (o : Option Presidency) → IfSome o OfficeIsBounded → UpIsBounded x → Costs 32 (deciding.deciding_by c n x o)
decides_by c n x None office h = stays x 32 h
decides_by c n x (Some p) office h =
    let t : Turn = decision (in_force c x) x.second (is_held_up p) p.groups in
    either_costs (may_order p.groups) (deciding.decided n x p t) (Stays x) 32
    (decided_costs n x p t (decision_few (in_force c x) x.second (is_held_up p) p.groups) office h) (stays x 32 h)

pub decides : (c : Cluster) (n : ℕ) (x : UpNode) → UpIsBounded x → Costs 32 (deciding.deciding c n x)
decides c n x h = decides_by c n x x.presidency h.presides h
