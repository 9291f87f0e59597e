-- What a node does with orders, and what its monitors report, has its widths.
use Rattle.std.specs.Prelude.{ℕ, ◌&&◌, not, Bool, false, List, [], ◌∷◌, Option, None, Some, IfSome, flat_map}
use Rattle.std.proofs.Common.{arith}
use Rattle.std.specs.List.{AllByRecursion}
use Rattle.std.specs.Option.{option_map}
use Rattle.cl_base.specs.Limits.{most_nodes}
use Rattle.cl_base.specs.Numbers.{numbers_to}
use Rattle.cl_base.specs.Sets.{has}
use Rattle.cl_base.specs.declared.command.Ask.{Ask}
use Rattle.cl_base.specs.declared.method.Method.{Method}
use Rattle.cl_base.specs.declared.method.Outcome.{Outcome}
use Rattle.cl_base.specs.declared.method.Outcome.TheVariants.{Success}
use Rattle.cmm_attempt.proofs.Basics.{if_either}
use Rattle.request_queue.specs.Queue.{is_full, next_number, with_number, with_request}
use Rattle.request_queue.specs.declared.request.Request.{Request}
use Rattle.rg_view.specs.declared.orders.Outstanding.{Outstanding}
use Rattle.rg_view.specs.Orders.{order_of}
use Rattle.rgm_member.specs.declared.carried.Carried.{Carried}
use Rattle.rgm_member.specs.declared.carried.Carried.TheVariants.{Called, Cleared, Kept, Old}
use Rattle.rgm_member.specs.declared.probed.Probed.{Probed}
use Rattle.rgm_member.specs.declared.probed.Probed.TheVariants as probe
use Rattle.rgm_member.specs.Orders.{after_order, answer_to, outcome_in}
use Rattle.rgm_member.specs.Probes.{after_probe, probed}
use Rattle.rgm_president.specs.State.{PresidentState}
use Rattle.rgm_state.specs.Outcomes as order
use Rattle.sent_orders.specs.Ticks.{due}
use Rattle.update_words.specs.Words.{ask_words_of}
use Rattle.wire.specs.declared.message.Body.TheVariants as body
use Rattle.wire.specs.declared.message.Order.{Order}
use Rattle.wire.specs.Spelling.{IsNode, IsWord}
use Rattle.node_model.specs.declared.cluster.Cluster.{Cluster}
use Rattle.node_model.specs.declared.node.UpNode.{UpNode}
use Rattle.node_model.specs.declared.presidency.Presidency.{Presidency}
use Rattle.node_model.specs.Configurations.{in_force, own_config}
use Rattle.node_model.specs.Deciding as deciding
use Rattle.node_model.specs.Groups as groups
use Rattle.node_model.specs.Groups.{asked_by, is_last, monitor_asked, order_again, order_again_to, order_at, order_told, order_with, orders_again, orders_again_of, own_order, own_order_of, reported, with_ended, worked}
use Rattle.node_model.specs.Plans.Plan.{Stays, Falls}
use Rattle.node_model.specs.Presidents as presidents
use Rattle.node_model.specs.Requests as requests
use Rattle.node_model.specs.Requests.{is_idle}
use Rattle.node_model.specs.Seats.{is_in, is_member}
use Rattle.node_model.specs.Updates.{is_of_member}
use Rattle.refinement.specs.node_widths.Widths.{AllFit, GroupsFit, OutstandingFits, PresidencyFits, QueueFits, UpFits}
use Rattle.refinement.specs.node_widths.Plans.{PlanFits}
use Rattle.refinement.proofs.node_widths.Deciding.{decides}
use Rattle.refinement.proofs.node_widths.Nodes.{answers, both_fit, either_fits, then_fits, with_requests_fits, with_worker_fits}
use Rattle.refinement.proofs.node_widths.Orders.{order_of_fits, with_done_fits}
use Rattle.refinement.proofs.node_widths.Presidents.{handles}
use Rattle.refinement.proofs.node_widths.Queues.{numbered_fits, with_request_fits}
use Rattle.refinement.proofs.node_widths.Requests.{asks}
use Rattle.refinement.proofs.node_widths.Turns.{numbers_are_nodes}
use Rattle.refinement.proofs.node_widths.Workers.{after_order_fits, after_probe_fits}

-- An order has ended.

done_at_fits : (c : Cluster) (n : ℕ) (x : UpNode) (from number : ℕ) (outcome : Outcome) (o : Option Presidency) → IsNode n → IfSome o PresidencyFits → UpFits c n x
    → PlanFits c n (groups.done_at c n x from number outcome o)
done_at_fits c n x from number outcome None is office h = h
done_at_fits c n x from number outcome (Some p) is office h =
    let y : UpNode = record x { presidency = Some (with_ended c x p from number outcome) } in
    let k : UpFits c n y =
    with_requests_fits c n x x.requests (Some (with_ended c x p from number outcome)) h.asked
    (office.0, office.1, with_done_fits (in_force c x) from number outcome x.second p.groups office.2) h in
    either_fits c n (order.is_due p.groups.view from number) _ (Stays x)
    (then_fits c n (deciding.deciding c n y) (presidents.handling c n) (decides c n y k) (λ z l. handles c n z is l)) h

pub done_so : (c : Cluster) (n : ℕ) (x : UpNode) (from e number : ℕ) (outcome : Outcome) → IsNode n → UpFits c n x → PlanFits c n (groups.on_done c n x from e number outcome)
done_so c n x from e number outcome is h =
    either_fits c n (is_of_member x from e) _ (Stays x) (done_at_fits c n x from number outcome x.presidency is h.presides h) h

-- An order is carried out.

told_fits : (n : ℕ) (o : Order) (k : Carried) → AllFit (order_told n o k)
told_fits n o (Called outcome) = call_fits o.method
  where
    call_fits : (m : Option Method) → AllFit (groups.call_told n o outcome m)
    call_fits None = tt
    call_fits (Some m) = tt
told_fits n o Cleared = tt
told_fits n o (Kept outcome) = tt
told_fits n o Old = tt

carries : (c : Cluster) (n : ℕ) (x : UpNode) (o : Order) (k : Carried) → IsWord o.number → UpFits c n x → PlanFits c n (groups.carrying c n x o k)
carries c n x o k small h = (
  told_fits n o k,
  either_fits c n (is_last c x o k) (Falls _) (Stays (worked c x o k)) tt
      (with_worker_fits c n x (after_order x.worker (own_config c x) o x.second k) (after_order_fits x.worker (own_config c x) o x.second k small h.clock h.works) h),
)

order_answered_fits : (c : Cluster) (n from : ℕ) (o : Order) (k : Carried) (x : UpNode) → IsNode from → IsWord o.epoch → IsWord o.number → UpFits c n x
    → PlanFits c n (groups.order_answered from o k x)
order_answered_fits c n from o Old x is epoch small h = h
order_answered_fits c n from o (Called outcome) x is epoch small h = answers c n from (body.Done o.epoch o.number outcome) x is.0 (epoch, small) h
order_answered_fits c n from o Cleared x is epoch small h = answers c n from (body.Done o.epoch o.number Success) x is.0 (epoch, small) h
order_answered_fits c n from o (Kept outcome) x is epoch small h = answers c n from (body.Done o.epoch o.number outcome) x is.0 (epoch, small) h

obeys : (c : Cluster) (n : ℕ) (x : UpNode) (from : ℕ) (o : Order) (k : Carried) → IsNode from → IsWord o.epoch → IsWord o.number → UpFits c n x → PlanFits c n (groups.obeying c n x from o k)
obeys c n x from o k is epoch small h =
    then_fits c n (groups.carrying c n x o k) (groups.order_answered from o k) (carries c n x o k small h) (λ y l. order_answered_fits c n from o k y is epoch small l)

pub order_so : (c : Cluster) (n : ℕ) (outcome : Outcome) (x : UpNode) (from : ℕ) (o : Order) → IsNode from → IsWord o.epoch → IsWord o.number → UpFits c n x
    → PlanFits c n (groups.on_order c n outcome x from o)
order_so c n outcome x from o is epoch small h =
    either_fits c n (is_member x.seat && is_in x o.epoch) _ (Stays x) (obeys c n x from o (answer_to x.worker o outcome) is epoch small h) h

-- The president's own.

carries_own : (c : Cluster) (n : ℕ) (x : UpNode) (o : Order) (k : Carried) → IsNode n → IsWord o.number → UpFits c n x → PlanFits c n (groups.carrying_own c n x o k)
carries_own c n x o k is small h =
    then_fits c n (groups.carrying c n x o k) (groups.own_done c n o k) (carries c n x o k small h) (λ y l. done_at_fits c n y n o.number (outcome_in k) y.presidency is l.presides l)

own_turn_by : (c : Cluster) (n : ℕ) (outcome : Outcome) (x : UpNode) (o : Option Order) → IsNode n → IfSome o (λ (k : Order). IsWord k.number) → UpFits c n x
    → PlanFits c n (groups.own_turn c n outcome x o)
own_turn_by c n outcome x None is small h = h
own_turn_by c n outcome x (Some o) is small h = carries_own c n x o (answer_to x.worker o outcome) is small h

order_fits : (e : ℕ) (o : Option Outstanding) → OutstandingFits o → IfSome (option_map (order_with e) o) (λ (k : Order). IsWord k.number)
order_fits e None f = tt
order_fits e (Some o) f = f.0

own_of_fits : (n : ℕ) (o : Option Presidency) → IfSome o PresidencyFits → IfSome (own_order_of n o) (λ (k : Order). IsWord k.number)
own_of_fits n None f = tt
own_of_fits n (Some p) f = order_fits p.groups.epoch (order_of p.groups.view.outstanding n) (order_of_fits p.groups.view.outstanding n f.2.2)

pub own_turn_fits : (c : Cluster) (n : ℕ) (outcome : Outcome) (x : UpNode) → IsNode n → UpFits c n x → PlanFits c n (groups.own_turn c n outcome x (own_order n x))
own_turn_fits c n outcome x is h =
    own_turn_by c n outcome x (own_order n x) is
    (if_either (λ o. IfSome o (λ (k : Order). IsWord k.number)) (is_member x.seat) (own_order_of n x.presidency) None (own_of_fits n x.presidency h.presides) tt) h

-- Orders go again.

again_to_fits : (n e : ℕ) (o : Option Outstanding) → IsNode n → IsWord e → OutstandingFits o → AllFit (order_again_to n (option_map (order_with e) o))
again_to_fits n e None is epoch f = tt
again_to_fits n e (Some o) is epoch f = (is.0, (epoch, f.0, f.1), tt)

again_fits : (set n : ℕ) (p : PresidentState) → IsNode n → GroupsFit p → AllFit (order_again set p n)
again_fits set n p is f =
    if_either AllFit (has set n) (order_again_to n (order_at n p)) [] (again_to_fits n p.epoch (order_of p.view.outstanding n) is f.0 (order_of_fits p.view.outstanding n f.2)) tt

agains_fit : (set : ℕ) (p : PresidentState) (ns : List ℕ) → AllByRecursion IsNode ns → GroupsFit p → AllFit (flat_map (order_again set p) ns)
agains_fit set p [] are f = tt
agains_fit set p (n ∷ ns) are f = both_fit (order_again set p n) (flat_map (order_again set p) ns) (again_fits set n p are.0 f) (agains_fit set p ns are.1 f)

again_of_fits : (set : ℕ) (p : PresidentState) → GroupsFit p → AllFit (orders_again_of set p)
unfolding orders_again_of
again_of_fits set p f = agains_fit set p (numbers_to p.view.members most_nodes) (numbers_are_nodes p.view.members 32 (omega arith)) f

again_by_fits : (before after : Option Presidency) → IfSome after PresidencyFits → AllFit (groups.orders_again_by before after)
again_by_fits None after f = tt
again_by_fits (Some before) None f = tt
again_by_fits (Some before) (Some after) f = again_of_fits (due before.sent) after.groups f.2

pub orders_again_fits : (c : Cluster) (n : ℕ) (before x : UpNode) → UpFits c n x → AllFit (orders_again before x)
orders_again_fits c n before x h = again_by_fits before.presidency x.presidency h.presides

-- A monitor reports.

monitor_fits : (c : Cluster) (n : ℕ) (x : UpNode) (ask : Ask) → UpFits c n x → UpFits c n (monitor_asked x ask)
monitor_fits c n x ask h =
    let r : Request = record { number = next_number x.requests; text = ask_words_of ask; told = false; second = x.second } in
    let f : QueueFits (with_number x.requests) = numbered_fits x.requests h.asked in
    with_requests_fits c n x (with_request (with_number x.requests) r) x.presidency (with_request_fits (with_number x.requests) r (f.0, h.clock) f) h.presides h

asks_this : (c : Cluster) (n : ℕ) (x : UpNode) (o : Option Ask) → IsNode n → UpFits c n x → PlanFits c n (groups.asking_this c n x o)
asks_this c n x None is h = h
asks_this c n x (Some ask) is h =
    let y : UpNode = monitor_asked x ask in
    let k : UpFits c n y = monitor_fits c n x ask h in
    either_fits c n (is_member x.seat && not (is_full x.requests)) (requests.asking_if (is_idle x.requests.waiting) c n y) (Stays x)
    (either_fits c n (is_idle x.requests.waiting) (requests.asking c n y) (Stays y) (asks c n y is k) k) h

reported_fits : (c : Cluster) (n : ℕ) (x : UpNode) (r : List ℕ) (p : Probed) → UpFits c n x → UpFits c n (reported x c r p)
reported_fits c n x r p h = with_worker_fits c n x (after_probe x.worker (own_config c x) r x.second p) (after_probe_fits x.worker (own_config c x) r x.second p h.clock h.works) h

reports : (c : Cluster) (n : ℕ) (x : UpNode) (r : List ℕ) (p : Probed) → IsNode n → UpFits c n x → PlanFits c n (groups.reporting c n x r p)
reports c n x r probe.NoMonitor is h = h
reports c n x r probe.Good is h = (tt, reported_fits c n x r probe.Good h)
reports c n x r (probe.Failed a) is h = (tt, asks_this c n (reported x c r (probe.Failed a)) (asked_by a r) is (reported_fits c n x r (probe.Failed a) h))

pub report_so : (c : Cluster) (n : ℕ) (x : UpNode) (r : List ℕ) (good : Bool) → IsNode n → UpFits c n x → PlanFits c n (groups.on_report c n x r good)
report_so c n x r good is h = reports c n x r (probed x.worker (own_config c x) r good x.second) is h
