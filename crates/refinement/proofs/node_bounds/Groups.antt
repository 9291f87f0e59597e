-- What a node sends for orders, and for what its monitors report.
use Rattle.std.specs.Prelude.{ℕ, ◌≡◌, ◌≤◌, ◌&&◌, not, Bool, true, false, List, [], ◌∷◌, Option, None, Some, IfSome, flat_map, length}
use Rattle.std.proofs.Common.{refl, arith}
use Rattle.std.specs.Option.{option_map}
use Rattle.cl_base.specs.Limits.{most_nodes}
use Rattle.cl_base.specs.Numbers.{numbers_to}
use Rattle.cl_base.specs.Sets.{has}
use Rattle.cl_base.specs.declared.command.Ask.{Ask}
use Rattle.cl_base.specs.declared.method.Method.{Method}
use Rattle.cl_base.specs.declared.method.Outcome.{Outcome}
use Rattle.cl_base.specs.declared.method.Outcome.TheVariants.{Success}
use Rattle.cmm_attempt.proofs.Basics.{and_cases, false_true, if_either}
use Rattle.attempt_laws.proofs.Walk.{if_with}
use Rattle.request_queue.specs.Queue.{is_full, next_number, with_number}
use Rattle.rg_view.specs.declared.orders.Outstanding.{Outstanding}
use Rattle.rg_view.specs.Orders.{order_of}
use Rattle.rgm_member.specs.declared.carried.Carried.{Carried}
use Rattle.rgm_member.specs.declared.carried.Carried.TheVariants.{Called, Cleared, Kept, Old}
use Rattle.rgm_member.specs.declared.probed.Probed.{Probed}
use Rattle.rgm_member.specs.declared.probed.Probed.TheVariants as probe
use Rattle.rgm_member.specs.Orders.{answer_to, outcome_in}
use Rattle.rgm_member.specs.Probes.{probed}
use Rattle.rgm_president.specs.State.{PresidentState}
use Rattle.rgm_state.specs.Outcomes as order
use Rattle.sent_orders.specs.Ticks.{due}
use Rattle.update_words.specs.Words.{ask_words_of}
use Rattle.wire.specs.declared.message.Body.TheVariants as body
use Rattle.wire.specs.declared.message.Order.{Order}
use Rattle.wire.specs.Spelling.{IsNode}
use Rattle.node_model.specs.declared.cluster.Cluster.{Cluster}
use Rattle.node_model.specs.declared.node.UpNode.{UpNode}
use Rattle.node_model.specs.declared.presidency.Presidency.{Presidency}
use Rattle.node_model.specs.Configurations.{own_config}
use Rattle.node_model.specs.Deciding as deciding
use Rattle.node_model.specs.Groups as groups
use Rattle.node_model.specs.Groups.{asked_by, is_last, monitor_asked, order_again, order_again_to, order_at, order_told, order_with, orders_again, orders_again_of, reported, with_ended, worked}
use Rattle.node_model.specs.Plans.Plan.{Stays, Falls}
use Rattle.node_model.specs.Presidents as presidents
use Rattle.node_model.specs.Requests as requests
use Rattle.node_model.specs.Requests.{is_idle}
use Rattle.node_model.specs.Seats.{is_in, is_member}
use Rattle.node_model.specs.Updates.{is_of_member}
use Rattle.refinement.specs.node_bounds.Bounded.{OfficeIsBounded, UpIsBounded}
use Rattle.refinement.specs.node_bounds.Sends.{sends_of}
use Rattle.refinement.proofs.node_bounds.Counts.{numbers_few, sends_append}
use Rattle.refinement.proofs.node_bounds.Deciding.{decides}
use Rattle.refinement.proofs.node_bounds.Plans.{Costs, answers, either_costs, falls, stays, tells, then_costs}
use Rattle.refinement.proofs.node_bounds.Presidents.{handles}
use Rattle.refinement.proofs.node_bounds.Queues.{with_request_few}
use Rattle.refinement.proofs.node_bounds.Requests.{asks}

-- An order has ended: a decision, and then what waits.

done_at_costs : (c : Cluster) (n : ℕ) (x : UpNode) (from number : ℕ) (outcome : Outcome) (o : Option Presidency) → IsNode n → IfSome o OfficeIsBounded → UpIsBounded x
    → Costs 3328 (groups.done_at c n x from number outcome o)
done_at_costs c n x from number outcome None is office h = stays x 3328 h
done_at_costs c n x from number outcome (Some p) is office h =
    let y : UpNode = record x { presidency = Some (with_ended c x p from number outcome) } in
    let k : UpIsBounded y = record { own = h.own; few = h.few; presides = office } in
    either_costs (order.is_due p.groups.view from number) _ (Stays x) 3328
    (then_costs (deciding.deciding c n y) (presidents.handling c n) 32 3296 (decides c n y k) (λ z l. handles c n z is l)) (stays x 3328 h)

pub done_costs : (c : Cluster) (n : ℕ) (x : UpNode) (from e number : ℕ) (outcome : Outcome) → IsNode n → UpIsBounded x → Costs 3328 (groups.on_done c n x from e number outcome)
done_costs c n x from e number outcome is h =
    either_costs (is_of_member x from e) (groups.done_at c n x from number outcome x.presidency) (Stays x) 3328 (done_at_costs c n x from number outcome x.presidency is h.presides h) (stays x 3328 h)

-- An order is carried out: that is told, and answered.

told_quiet : (n : ℕ) (o : Order) (k : Carried) → sends_of (order_told n o k) ≡ 0
told_quiet n o (Called outcome) = call_quiet o.method
  where
    call_quiet : (m : Option Method) → sends_of (groups.call_told n o outcome m) ≡ 0
    call_quiet None = refl
    call_quiet (Some m) = refl
told_quiet n o Cleared = refl
told_quiet n o (Kept outcome) = refl
told_quiet n o Old = refl

carries : (c : Cluster) (n : ℕ) (x : UpNode) (o : Order) (k : Carried) → UpIsBounded x → Costs 0 (groups.carrying c n x o k)
carries c n x o k h =
    tells (order_told n o k) _ 0 (told_quiet n o k)
    (either_costs (is_last c x o k) (Falls _) (Stays (worked c x o k)) 0 (falls _ 0) (stays (worked c x o k) 0 (record { own = h.own; few = h.few; presides = h.presides })))

order_answered_costs : (from : ℕ) (o : Order) (k : Carried) (x : UpNode) → UpIsBounded x → Costs 1 (groups.order_answered from o k x)
order_answered_costs from o Old x h = stays x 1 h
order_answered_costs from o (Called outcome) x h = answers from (body.Done o.epoch o.number outcome) x 1 (omega arith) h
order_answered_costs from o Cleared x h = answers from (body.Done o.epoch o.number Success) x 1 (omega arith) h
order_answered_costs from o (Kept outcome) x h = answers from (body.Done o.epoch o.number outcome) x 1 (omega arith) h

obeys : (c : Cluster) (n : ℕ) (x : UpNode) (from : ℕ) (o : Order) (k : Carried) → UpIsBounded x → Costs 1 (groups.obeying c n x from o k)
obeys c n x from o k h = then_costs (groups.carrying c n x o k) (groups.order_answered from o k) 0 1 (carries c n x o k h) (λ y l. order_answered_costs from o k y l)

pub order_costs : (c : Cluster) (n : ℕ) (outcome : Outcome) (x : UpNode) (from : ℕ) (o : Order) → UpIsBounded x → Costs 1 (groups.on_order c n outcome x from o)
order_costs c n outcome x from o h =
    either_costs (is_member x.seat && is_in x o.epoch) (groups.obeying c n x from o (answer_to x.worker o outcome)) (Stays x) 1 (obeys c n x from o (answer_to x.worker o outcome) h) (stays x 1 h)

-- The president's own.

carries_own : (c : Cluster) (n : ℕ) (x : UpNode) (o : Order) (k : Carried) → IsNode n → UpIsBounded x → Costs 3328 (groups.carrying_own c n x o k)
carries_own c n x o k is h =
    then_costs (groups.carrying c n x o k) (groups.own_done c n o k) 0 3328 (carries c n x o k h) (λ y l. done_at_costs c n y n o.number (outcome_in k) y.presidency is l.presides l)

pub own_turn_costs : (c : Cluster) (n : ℕ) (outcome : Outcome) (x : UpNode) (o : Option Order) → IsNode n → UpIsBounded x → Costs 3328 (groups.own_turn c n outcome x o)
own_turn_costs c n outcome x None is h = stays x 3328 h
own_turn_costs c n outcome x (Some o) is h = carries_own c n x o (answer_to x.worker o outcome) is h

-- Orders go again.

again_to_few : (n e : ℕ) (o : Option Outstanding) → sends_of (order_again_to n (option_map (order_with e) o)) ≤ 1
again_to_few n e None = omega arith
again_to_few n e (Some o) = omega arith

again_few : (set n : ℕ) (p : PresidentState) → sends_of (order_again set p n) ≤ 1
again_few set n p =
    if_either (λ os. sends_of os ≤ 1) (has set n) (order_again_to n (order_at n p)) [] (again_to_few n p.epoch (order_of p.view.outstanding n)) (omega arith)

agains_few : (set : ℕ) (p : PresidentState) (ns : List ℕ) → sends_of (flat_map (order_again set p) ns) ≤ length ns
agains_few set p [] = omega arith
agains_few set p (n ∷ ns) = omega (arith, sends_append (order_again set p n) (flat_map (order_again set p) ns), again_few set n p, agains_few set p ns)

again_of_few : (set : ℕ) (p : PresidentState) → sends_of (orders_again_of set p) ≤ 32
unfolding orders_again_of
again_of_few set p = omega (arith, agains_few set p (numbers_to p.view.members most_nodes), numbers_few p.view.members 32)

again_by_few : (before after : Option Presidency) → sends_of (groups.orders_again_by before after) ≤ 32
again_by_few None after = omega arith
again_by_few (Some before) None = omega arith
again_by_few (Some before) (Some after) = again_of_few (due before.sent) after.groups

pub orders_again_few : (before x : UpNode) → sends_of (orders_again before x) ≤ 32
orders_again_few before x = again_by_few before.presidency x.presidency

-- A monitor reports: a request may go.

asks_this : (c : Cluster) (n : ℕ) (x : UpNode) (o : Option Ask) → IsNode n → UpIsBounded x → Costs 3296 (groups.asking_this c n x o)
asks_this c n x None is h = stays x 3296 h
asks_this c n x (Some ask) is h =
    let y : UpNode = monitor_asked x ask in
    if_with (Costs 3296) (is_member x.seat && not (is_full x.requests)) (is_member x.seat && not (is_full x.requests)) (requests.asking_if (is_idle x.requests.waiting) c n y) (Stays x) refl
    (λ e.
    let room : is_full x.requests ≡ false = not_so (is_full x.requests) (and_cases (is_member x.seat) (not (is_full x.requests)) e).1 in
    let k : UpIsBounded y = record {
      own = h.own;
      few = with_request_few (with_number x.requests) (record { number = next_number x.requests; text = ask_words_of ask; told = false; second = x.second }) room;
      presides = h.presides;
    } in
    either_costs (is_idle x.requests.waiting) (requests.asking c n y) (Stays y) 3296 (asks c n y is k) (stays y 3296 k)) (λ e. stays x 3296 h)
  where
    not_so : (b : Bool) → not b ≡ true → b ≡ false
    not_so true e = absurd (false_true e)
    not_so false e = refl

reports : (c : Cluster) (n : ℕ) (x : UpNode) (r : List ℕ) (p : Probed) → IsNode n → UpIsBounded x → Costs 3296 (groups.reporting c n x r p)
reports c n x r probe.NoMonitor is h = stays x 3296 h
reports c n x r probe.Good is h = tells _ (Stays (reported x c r probe.Good)) 3296 refl (stays (reported x c r probe.Good) 3296 (record { own = h.own; few = h.few; presides = h.presides }))
reports c n x r (probe.Failed a) is h =
    tells _ (groups.asking_this c n (reported x c r (probe.Failed a)) (asked_by a r)) 3296 refl
    (asks_this c n (reported x c r (probe.Failed a)) (asked_by a r) is (record { own = h.own; few = h.few; presides = h.presides }))

pub report_costs : (c : Cluster) (n : ℕ) (x : UpNode) (r : List ℕ) (good : Bool) → IsNode n → UpIsBounded x → Costs 3296 (groups.on_report c n x r good)
report_costs c n x r good is h = reports c n x r (probed x.worker (own_config c x) r good x.second) is h
