-- Orders are carried out by members, and told to the president; monitors report.
use Rattle.std.specs.Prelude.{ℕ, ◌&&◌, not, Bool, false, List, [], ◌∷◌, flat_map, Option, None, Some, if◌then◌else◌}
use Rattle.std.specs.Option.{option_map}
use Rattle.cl_base.specs.Limits.{most_nodes}
use Rattle.cl_base.specs.Numbers.{numbers_to}
use Rattle.cl_base.specs.Sets.{has}
use Rattle.cl_base.specs.declared.command.Ask.{Ask}
use Rattle.cl_base.specs.declared.command.Ask.TheVariants.{Restart, Move}
use Rattle.cl_base.specs.declared.method.Method.{Method}
use Rattle.cl_base.specs.declared.method.Outcome.{Outcome}
use Rattle.cl_base.specs.declared.method.Outcome.TheVariants.{Success}
use Rattle.cl_base.specs.declared.panic.Panic.TheVariants as panic
use Rattle.request_queue.specs.Queue.{is_full, next_number, with_number, with_request}
use Rattle.restart_policy.specs.declared.policy.ProbeAction.{ProbeAction}
use Rattle.restart_policy.specs.declared.policy.ProbeAction.TheVariants as action
use Rattle.rg_view.specs.Orders.{order_of}
use Rattle.rg_view.specs.declared.orders.Outstanding.{Outstanding}
use Rattle.rgm_member.specs.Orders.{after_order, answer_to, outcome_in}
use Rattle.rgm_member.specs.Outcomes.{is_fatal}
use Rattle.rgm_member.specs.Probes.{after_probe, probed}
use Rattle.rgm_member.specs.declared.carried.Carried.{Carried}
use Rattle.rgm_member.specs.declared.carried.Carried.TheVariants.{Called, Cleared, Kept, Old}
use Rattle.rgm_member.specs.declared.probed.Probed.{Probed}
use Rattle.rgm_member.specs.declared.probed.Probed.TheVariants as probe
use Rattle.rgm_president.specs.Acts.{with_done}
use Rattle.rgm_president.specs.State.{PresidentState}
use Rattle.rgm_state.specs.Outcomes as order
use Rattle.sent_orders.specs.Ages as ages
use Rattle.sent_orders.specs.Ticks.{due}
use Rattle.status_report.specs.declared.call_entry.CallEntry.TheVariants as call
use Rattle.status_report.specs.declared.call_entry.ProbeResult.{ProbeResult}
use Rattle.status_report.specs.declared.call_entry.ProbeResult.TheVariants as result
use Rattle.status_report.specs.declared.entry.Entry.TheVariants as entry
use Rattle.status_report.specs.declared.node_entry.DownCause.TheVariants as down
use Rattle.update_words.specs.Words.{ask_words_of}
use Rattle.wire.specs.declared.message.Body.TheVariants as body
use Rattle.wire.specs.declared.message.Order.{Order}
use Rattle.node_model.specs.declared.cluster.Cluster.{Cluster}
use Rattle.node_model.specs.declared.node.UpNode.{UpNode}
use Rattle.node_model.specs.declared.output.Output.{Output}
use Rattle.node_model.specs.declared.output.Output.TheVariants.{Tells, Sends}
use Rattle.node_model.specs.declared.presidency.Presidency.{Presidency}
use Rattle.node_model.specs.Configurations.{in_force, own_config}
use Rattle.node_model.specs.Deciding.{deciding}
use Rattle.node_model.specs.Entries.{answering}
use Rattle.node_model.specs.Plans.{Plan, and_then}
use Rattle.node_model.specs.Plans.Plan.{Stays, Says, Falls}
use Rattle.node_model.specs.Presidents.{handling}
use Rattle.node_model.specs.Requests.{asking_if, is_idle}
use Rattle.node_model.specs.Seats.{is_in, is_member}
use Rattle.node_model.specs.Updates.{is_of_member}

-- The president learns how an order ended: that counts once. It decides, and goes on with what waits.

abbrev pub with_ended : Cluster → UpNode → Presidency → ℕ → ℕ → Outcome → Presidency
with_ended c x p from number outcome = record p {
  groups = with_done (in_force c x) from number outcome x.second p.groups;
  sent = ages.with_ended p.sent from;
}

abbrev pub done_at : Cluster → ℕ → UpNode → ℕ → ℕ → Outcome → Option Presidency → Plan
done_at c me x from number outcome None = Stays x
done_at c me x from number outcome (Some p) =
    if order.is_due p.groups.view from number
    then and_then (deciding c me (record x { presidency = Some (with_ended c x p from number outcome) })) (handling c me)
    else Stays x

abbrev pub on_done : Cluster → ℕ → UpNode → ℕ → ℕ → ℕ → Outcome → Plan
on_done c me x from e number outcome = if is_of_member x from e then done_at c me x from number outcome x.presidency else Stays x

-- An order is carried out. A method that is called is told, and how it ended, which is given beside.

abbrev pub call_told : ℕ → Order → Outcome → Option Method → List Output
call_told me o outcome None = []
call_told me o outcome (Some m) =
    Tells (entry.Call (call.Called o.epoch me m o.resource)) ∷ Tells (entry.Call (call.Done o.epoch me m o.resource outcome)) ∷ []

abbrev pub order_told : ℕ → Order → Carried → List Output
order_told me o (Called outcome) = call_told me o outcome o.method
order_told me o Cleared = []
order_told me o (Kept outcome) = []
order_told me o Old = []

abbrev pub worked : Cluster → UpNode → Order → Carried → UpNode
worked c x o carried = record x { worker = after_order x.worker (own_config c x) o x.second carried }

-- a failure to stop that the node does not survive
abbrev pub is_fatal_to : Cluster → UpNode → Order → Outcome → Option Method → Bool
is_fatal_to c x o outcome None = false
is_fatal_to c x o outcome (Some m) = is_fatal (own_config c x) o.resource m outcome

abbrev pub is_last : Cluster → UpNode → Order → Carried → Bool
is_last c x o (Called outcome) = is_fatal_to c x o outcome o.method
is_last c x o Cleared = false
is_last c x o (Kept outcome) = false
is_last c x o Old = false

abbrev pub carrying : Cluster → ℕ → UpNode → Order → Carried → Plan
carrying c me x o carried =
    Says (order_told me o carried) (if is_last c x o carried then Falls (down.Panic (panic.Stop o.resource)) else Stays (worked c x o carried))

-- A member carries out an order of its membership once, and says how it ended, also again. One of another membership changes nothing.

abbrev pub order_answered : ℕ → Order → Carried → UpNode → Plan
order_answered from o Old x = Stays x
order_answered from o (Called outcome) x = answering from (body.Done o.epoch o.number outcome) x
order_answered from o Cleared x = answering from (body.Done o.epoch o.number Success) x
order_answered from o (Kept outcome) x = answering from (body.Done o.epoch o.number outcome) x

abbrev pub obeying : Cluster → ℕ → UpNode → ℕ → Order → Carried → Plan
obeying c me x from o carried = and_then (carrying c me x o carried) (order_answered from o carried)

abbrev pub on_order : Cluster → ℕ → Outcome → UpNode → ℕ → Order → Plan
on_order c me outcome x from o =
    if is_member x.seat && is_in x o.epoch then obeying c me x from o (answer_to x.worker o outcome) else Stays x

-- The president carries out its own order at a tick.

-- the order that is outstanding, as it is sent
abbrev pub order_with : ℕ → Outstanding → Order
order_with e o = record { epoch = e; number = o.number; method = o.method; resource = o.resource }

abbrev pub order_at : ℕ → PresidentState → Option Order
order_at n p = option_map (order_with p.epoch) (order_of p.view.outstanding n)

abbrev pub own_order_of : ℕ → Option Presidency → Option Order
own_order_of me None = None
own_order_of me (Some p) = order_at me p.groups

abbrev pub own_order : ℕ → UpNode → Option Order
own_order me x = if is_member x.seat then own_order_of me x.presidency else None

abbrev pub own_done : Cluster → ℕ → Order → Carried → UpNode → Plan
own_done c me o carried x = done_at c me x me o.number (outcome_in carried) x.presidency

abbrev pub carrying_own : Cluster → ℕ → UpNode → Order → Carried → Plan
carrying_own c me x o carried = and_then (carrying c me x o carried) (own_done c me o carried)

abbrev pub own_turn : Cluster → ℕ → Outcome → UpNode → Option Order → Plan
own_turn c me outcome x None = Stays x
own_turn c me outcome x (Some o) = carrying_own c me x o (answer_to x.worker o outcome)

-- Orders go again to the members that have not answered; whether they are due is read off the president before the tick.

abbrev pub order_again_to : ℕ → Option Order → List Output
order_again_to n None = []
order_again_to n (Some o) = Sends n (body.Order o) ∷ []

abbrev pub order_again : ℕ → PresidentState → ℕ → List Output
order_again due p n = if has due n then order_again_to n (order_at n p) else []

-- these nodes' orders
unfoldable pub orders_again_of : ℕ → PresidentState → List Output
orders_again_of due p = flat_map (order_again due p) (numbers_to p.view.members most_nodes)

abbrev pub orders_again_by : Option Presidency → Option Presidency → List Output
orders_again_by None after = []
orders_again_by (Some before) None = []
orders_again_by (Some before) (Some after) = orders_again_of (due before.sent) after.groups

-- before the tick, and after what comes before this at the tick
abbrev pub orders_again : UpNode → UpNode → List Output
orders_again before x = orders_again_by before.presidency x.presidency

-- A monitor reports. A failure leads to a restart, to a move, or to nothing; what is to be done is asked as a request of the node, which
-- takes a number of its own. A node that is no member, or has no room for it, keeps it and asks nobody.

abbrev pub report_told : ℕ → List ℕ → ProbeResult → Output
report_told me r told = Tells (entry.Call (call.Probed me r told))

abbrev pub asked_by : ProbeAction → List ℕ → Option Ask
asked_by action.Restart r = Some (Restart r)
asked_by action.Move r = Some (Move r)
asked_by action.Logged r = None

abbrev pub result_of : ProbeAction → ProbeResult
result_of action.Restart = result.Restart
result_of action.Move = result.Move
result_of action.Logged = result.Logged

abbrev pub monitor_asked : UpNode → Ask → UpNode
monitor_asked x ask = record x {
  requests = with_request (with_number x.requests) (record { number = next_number x.requests; text = ask_words_of ask; told = false; second = x.second });
}

abbrev pub asking_this : Cluster → ℕ → UpNode → Option Ask → Plan
asking_this c me x None = Stays x
asking_this c me x (Some ask) =
    if is_member x.seat && not (is_full x.requests) then asking_if (is_idle x.requests.waiting) c me (monitor_asked x ask) else Stays x

abbrev pub reported : UpNode → Cluster → List ℕ → Probed → UpNode
reported x c r p = record x { worker = after_probe x.worker (own_config c x) r x.second p }

abbrev pub reporting : Cluster → ℕ → UpNode → List ℕ → Probed → Plan
reporting c me x r probe.NoMonitor = Stays x
reporting c me x r probe.Good = Says (report_told me r result.Ok ∷ []) (Stays (reported x c r probe.Good))
reporting c me x r (probe.Failed a) = Says (report_told me r (result_of a) ∷ []) (asking_this c me (reported x c r (probe.Failed a)) (asked_by a r))

abbrev pub on_report : Cluster → ℕ → UpNode → List ℕ → Bool → Plan
on_report c me x r good = reporting c me x r (probed x.worker (own_config c x) r good x.second)
