-- A president's decision has its widths.
use Rattle.std.specs.Prelude.{ℕ, ◌==◌, List, [], ◌∷◌, Option, None, Some, IfSome, flat_map}
use Rattle.std.proofs.Common.{refl}
use Rattle.cmm_attempt.proofs.Basics.{if_either}
use Rattle.attempt_laws.proofs.Walk.{if_with}
use Rattle.rgm_president.specs.Decisions.{Turn, decision}
use Rattle.wire.specs.declared.message.Body.TheVariants as body
use Rattle.wire.specs.declared.message.Order.{Order}
use Rattle.node_model.specs.declared.cluster.Cluster.{Cluster}
use Rattle.node_model.specs.declared.node.UpNode.{UpNode}
use Rattle.node_model.specs.declared.output.Output.TheVariants.{Sends}
use Rattle.node_model.specs.declared.presidency.Presidency.{Presidency}
use Rattle.node_model.specs.Configurations.{in_force}
use Rattle.node_model.specs.Deciding as deciding
use Rattle.node_model.specs.Deciding.{is_held_up, may_order, order_sent, orders_sent, with_turn}
use Rattle.node_model.specs.Plans.Plan.{Stays}
use Rattle.refinement.specs.node_widths.Widths.{AllFit, GroupsFit, PresidencyFits, UpFits}
use Rattle.refinement.specs.node_widths.Plans.{PlanFits}
use Rattle.refinement.proofs.node_widths.Names.{in_force_fits}
use Rattle.refinement.proofs.node_widths.Nodes.{both_fit, with_requests_fits}
use Rattle.refinement.proofs.node_widths.Orders.{OrdersFit, decision_fits}

flat_fits : (n : ℕ) (orders : List (ℕ × Order)) → OrdersFit orders → AllFit (flat_map (order_sent n) orders)
flat_fits n [] h = tt
flat_fits n (e ∷ orders) h =
    both_fit (order_sent n e) (flat_map (order_sent n) orders)
    (if_either AllFit (e.0 == n) [] (Sends e.0 (body.Order e.1) ∷ []) tt (h.0.0.0, (h.0.1, h.0.2, h.0.3), tt)) (flat_fits n orders h.1)

pub orders_sent_fits : (n : ℕ) (orders : List (ℕ × Order)) → OrdersFit orders → AllFit (orders_sent n orders)
unfolding orders_sent
orders_sent_fits n orders h = flat_fits n orders h

decided_fits : (c : Cluster) (n : ℕ) (x : UpNode) (p : Presidency) (t : Turn) → GroupsFit t.president × OrdersFit t.orders → PresidencyFits p → UpFits c n x
    → PlanFits c n (deciding.decided n x p t)
decided_fits c n x p t f office h =
    (orders_sent_fits n t.orders f.1, with_requests_fits c n x x.requests (Some (with_turn n p t)) h.asked (office.0, office.1, f.0) h)

decides_by : (c : Cluster) (n : ℕ) (x : UpNode) (o : Option Presidency) → IfSome o PresidencyFits → UpFits c n x → PlanFits c n (deciding.deciding_by c n x o)
decides_by c n x None office h = h
decides_by c n x (Some p) office h =
    let t : Turn = decision (in_force c x) x.second (is_held_up p) p.groups in
    if_with (PlanFits c n) (may_order p.groups) (may_order p.groups) (deciding.decided n x p t) (Stays x) refl
    (λ may. decided_fits c n x p t (decision_fits (in_force c x) x.second (is_held_up p) p.groups (in_force_fits c x) may office.2) office h) (λ e. h)

pub decides : (c : Cluster) (n : ℕ) (x : UpNode) → UpFits c n x → PlanFits c n (deciding.deciding c n x)
decides c n x h = decides_by c n x x.presidency h.presides h
