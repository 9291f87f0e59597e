-- Whatever happens to a node, it sends few messages, and stays bounded.
use Rattle.std.specs.Prelude.{ℕ, ◌≤◌, ◌==◌, nat_le, nat_lt, Bool, length, Option, None, Some, IfSome, Ok, is_some}
use Rattle.std.proofs.Common.{refl, arith}
use Rattle.answer_words.specs.Answers.{answer_in}
use Rattle.cl_base.specs.Seizings.{SeizeResult}
use Rattle.cl_base.specs.Sets.{has}
use Rattle.cl_base.specs.declared.method.Outcome.{Outcome}
use Rattle.cl_base.specs.declared.seizing.SeizeEnd.TheVariants as seized
use Rattle.cmm_attempt.specs.Attempts.{AttemptState}
use Rattle.cmm_attempt.specs.Calls.{Own_seized, Take, Tick as Call_tick, turn}
use Rattle.device_queue.specs.declared.progress.Progress.{Progress}
use Rattle.device_queue.specs.declared.progress.Progress.TheVariants as progress
use Rattle.device_queue.specs.Queue.{begins_plainly, due_device, joins, kept_of, next_of, progress_after}
use Rattle.heartbeats.specs.Views.{receivers_of}
use Rattle.pgr_device.specs.declared.command.PrAnswer.TheVariants as given
use Rattle.pgr_device.specs.declared.command.PrCommand.{PrCommand}
use Rattle.seize.specs.Answers.{Answer}
use Rattle.seize.specs.declared.kind.JoinResult.{JoinResult}
use Rattle.seize.specs.declared.kind.JoinResult.TheVariants as join
use Rattle.seize.specs.declared.kind.SeizeKind.{SeizeKind}
use Rattle.seize.specs.declared.kind.SeizeKind.TheVariants.{Vote, Plain}
use Rattle.status_report.specs.declared.node_entry.NodeEntry.TheVariants as note
use Rattle.wire.specs.declared.message.Body.{Body}
use Rattle.wire.specs.declared.message.Body.TheVariants as body
use Rattle.wire.specs.declared.message.Install.{Install}
use Rattle.wire.specs.declared.message.Message.{Message}
use Rattle.wire.specs.Spelling.{IsNode}
use Rattle.refinement.proofs.node_bounds.Clients.{client_costs}
use Rattle.node_model.specs.Configurations.{configured_at}
use Rattle.node_model.specs.declared.cluster.Cluster.{Cluster}
use Rattle.node_model.specs.declared.input.Input.{Input}
use Rattle.node_model.specs.declared.input.Input.TheVariants as input
use Rattle.node_model.specs.declared.node.UpNode.{UpNode}
use Rattle.node_model.specs.declared.presidency.Presidency.{Presidency}
use Rattle.node_model.specs.declared.seat.Seat.{Seat}
use Rattle.node_model.specs.declared.seat.Seat.TheVariants.{Forming, Member}
use Rattle.node_model.specs.Attempts as attempts
use Rattle.node_model.specs.Attempts.{installing, next_epoch, promise_of}
use Rattle.node_model.specs.Deciding as deciding
use Rattle.node_model.specs.Devices as devices
use Rattle.node_model.specs.Devices.{distrusting, joining_so}
use Rattle.node_model.specs.Entries.{answering, telling_of, unknown_lines}
use Rattle.node_model.specs.Groups.{orders_again, own_order, own_turn}
use Rattle.node_model.specs.Members as members
use Rattle.node_model.specs.Members.{hearing, is_foreign, promised_so, ready_of, rested_by, sitting}
use Rattle.node_model.specs.Plans.{Plan}
use Rattle.node_model.specs.Plans.Plan.{Stays, Falls}
use Rattle.node_model.specs.Seats.{coordinator_of, installed_of, is_in, promised_of, promising, record_of, session_of}
use Rattle.node_model.specs.Steps.{plan_of}
use Rattle.node_model.specs.Ticks as ticks
use Rattle.node_model.specs.Ticks.{heartbeats_to, later, members_to_form, waiting_less}
use Rattle.node_model.specs.Updates.{later_presidency, prepares_again, request_again}
use Rattle.refinement.specs.node_bounds.Bounded.{AttemptIsBounded, IsFromNode, OfficeIsBounded, UpIsBounded}
use Rattle.refinement.specs.node_bounds.Laws.{StepsSendFew, StepsStayBounded}
use Rattle.refinement.specs.node_bounds.Sends.{sends_of}
use Rattle.refinement.proofs.node_bounds.Attempts.{goes_on, leads, own_ready_costs, promises}
use Rattle.refinement.proofs.node_bounds.Calls.{turn_is_brief}
use Rattle.refinement.proofs.node_bounds.Counts.{heartbeats_few, sends_append, unknown_quiet}
use Rattle.refinement.proofs.node_bounds.Deciding.{decides}
use Rattle.refinement.proofs.node_bounds.Groups.{done_costs, order_costs, orders_again_few, own_turn_costs, report_costs}
use Rattle.refinement.proofs.node_bounds.Plans.{Costs, answers, costs_less, either_costs, falls, keeps, says, stays, tells, then_costs}
use Rattle.refinement.proofs.node_bounds.Requests.{asked_costs, command_costs, commit_costs, prepare_costs, prepared_costs, prepares_again_few, reply_costs, request_again_few}

-- A tick.

later_office : (o : Option Presidency) → IfSome o OfficeIsBounded → IfSome (later_presidency o) OfficeIsBounded
later_office None h = tt
later_office (Some p) h = h

later_bounded : (c : Cluster) (x : UpNode) → UpIsBounded x → UpIsBounded (later c x)
later_bounded c x h = record { own = h.own; few = h.few; presides = later_office x.presidency h.presides }

waits_less : (x : UpNode) → UpIsBounded x → UpIsBounded (waiting_less x)
waits_less x h = record { own = h.own; few = h.few; presides = h.presides }

forms : (c : Cluster) (n : ℕ) (x : UpNode) (o : Option ℕ) → length c.attached ≤ 16 → UpIsBounded x → Costs 130 (ticks.forming c n x o)
forms c n x None few h = stays x 130 h
forms c n x (Some set) few h = leads c n x (next_epoch n x) set few h

ticks_by : (c : Cluster) (n : ℕ) (x : UpNode) (o : Option AttemptState) → length c.attached ≤ 16 → IfSome o AttemptIsBounded → UpIsBounded x → Costs 130 (ticks.attempt_ticked c n x o)
ticks_by c n x (Some a) few f h = goes_on c n x (turn a Call_tick) (turn_is_brief a Call_tick tt f) h
ticks_by c n x None few f h =
    either_costs (nat_le 1 x.beats.wait) (Stays (waiting_less x)) (ticks.forming c n (waiting_less x) (members_to_form c n (waiting_less x))) 130 (stays (waiting_less x) 130 (waits_less x h))
    (forms c n (waiting_less x) (members_to_form c n (waiting_less x)) few (waits_less x h))

ticked_few : (c : Cluster) (before x : UpNode) → sends_of (ticks.ticked_output c before x) ≤ 33
ticked_few c before x =
    let beats : ℕ = receivers_of x.beats (configured_at c x) in
    omega (arith, sends_append (heartbeats_to x beats) (request_again before), heartbeats_few x beats, request_again_few before)

again_few : (before x : UpNode) → sends_of (ticks.again_output before x) ≤ 64
again_few before x = omega (arith, sends_append (prepares_again before) (orders_again before x), prepares_again_few before, orders_again_few before x)

-- its own order ends, and a decision and what waits follow; what is not answered goes again; and a decision
governs : (c : Cluster) (n : ℕ) (outcome : Outcome) (before x : UpNode) → IsNode n → UpIsBounded x → Costs 3424 (ticks.governing c n outcome before x)
governs c n outcome before x is h =
    then_costs (own_turn c n outcome x (own_order n x)) (ticks.going_again c n before) 3328 96 (own_turn_costs c n outcome x (own_order n x) is h)
    (λ y k. says (ticks.again_output before y) (deciding.deciding c n y) 64 32 (again_few before y) (decides c n y k))

tick_costs : (c : Cluster) (n : ℕ) (outcome : Outcome) (x : UpNode) → length c.attached ≤ 16 → IsNode n → UpIsBounded x → Costs 3587 (ticks.on_tick c n outcome x)
tick_costs c n outcome x few is h =
    let y : UpNode = later c x in
    let k : UpIsBounded y = later_bounded c x h in
    tells _ (ticks.beating c n outcome x y) 3587 refl
    (says (ticks.ticked_output c x y) _ 33 3554 (ticked_few c x y)
    (then_costs (ticks.governing c n outcome x y) (λ z. ticks.attempt_ticked c n z z.attempt) 3424 130 (governs c n outcome x y is k) (λ z l. ticks_by c n z z.attempt few l.own l)))

-- Messages.

beats_costs : (n : ℕ) (x : UpNode) (from session : ℕ) (member : Bool) → UpIsBounded x → Costs 1 (members.on_heartbeat n x from session member)
beats_costs n x from session member h =
    either_costs (members.awaits_start n x from session member) _ (Stays x) 1 (answers from (body.Start (session_of x)) x 1 (omega arith) h) (stays x 1 h)

rested : (x : UpNode) (p : ℕ) (o : Option AttemptState) → UpIsBounded (rested_by (promising x p) o)
rested x p None = promises x p
rested x p (Some a) = record { own = tt; few = omega arith; presides = tt }

superseded_costs : (x : UpNode) (p : ℕ) (o : Option AttemptState) (rest : Plan) (k : ℕ) → Costs k rest → Costs k (members.superseded_by x p o rest)
superseded_costs x p None rest k h = h
superseded_costs x p (Some a) rest k h = tells _ rest k refl h

collect_costs : (n : ℕ) (x : UpNode) (from p : ℕ) → UpIsBounded x → Costs 1 (members.on_collect n x from p)
collect_costs n x from p h =
    let y : UpNode = promised_so x p in
    let promised : Costs 1 (answering from (promise_of y p) y) = answers from (promise_of y p) y 1 (omega arith) (rested x p x.attempt) in
    either_costs (nat_lt (promised_of x) p) _ _ 1
    (keeps n y _ 1 (superseded_costs x p x.attempt _ 1 (tells (unknown_lines n x.requests.waiting) (answering from (promise_of y p) y) 1 (unknown_quiet n x.requests.waiting) promised)))
    (either_costs (is_in x p) _ _ 1 (answers from (promise_of x p) x 1 (omega arith) h) (answers from (body.Nack p (promised_of x)) x 1 (omega arith) h))

request_costs : (c : Cluster) (n : ℕ) (x : UpNode) (from : ℕ) (kind : SeizeKind) (e ms d : ℕ) (o : Option SeizeResult) → UpIsBounded x → Costs 1 (members.on_request c n x from kind e ms d o)
request_costs c n x from kind e ms d (Some result) h = answers from (body.Seized e d result) x 1 (omega arith) h
request_costs c n x from kind e ms d None h =
    either_costs (installed_of x == e) _ (Stays _) 1 (answers from (body.Seized e d seized.Fault) x 1 (omega arith) h) (stays _ 1 (record { own = h.own; few = h.few; presides = h.presides }))

seize_costs : (c : Cluster) (n : ℕ) (x : UpNode) (from : ℕ) (kind : SeizeKind) (e ms d : ℕ) → UpIsBounded x → Costs 1 (members.on_seizing c n x from kind e ms d)
seize_costs c n x from kind e ms d h =
    either_costs (is_in x e) (members.on_request c n x from kind e ms d (kept_of x.tasks d)) (Stays x) 1 (request_costs c n x from kind e ms d (kept_of x.tasks d) h) (stays x 1 h)

ready_costs : (c : Cluster) (x : UpNode) (to : ℕ) → UpIsBounded x → Costs 1 (members.readying c x to)
ready_costs c x to h = either_costs (joins x.tasks) (Stays x) (answering to (ready_of c x) x) 1 (stays x 1 h) (answers to (ready_of c x) x 1 (omega arith) h)

install_as_costs : (c : Cluster) (n : ℕ) (x : UpNode) (from : ℕ) (i : Install) (seat : Seat) → UpIsBounded x → Costs 1 (members.on_install_as c n x from i seat)
install_as_costs c n x from i (Member s) h = ready_costs c x from h
install_as_costs c n x from i (Forming s) h =
    let y : UpNode = installing c n x s x.tasks i in
    let k : UpIsBounded y = record { own = h.own; few = h.few; presides = h.presides } in
    either_costs (s.saved.installed == i.epoch) (members.readying c x from) _ 1 (ready_costs c x from h)
    (keeps n y (telling_of n (note.Installed i.epoch) (members.readying c y from)) 1 (tells _ (members.readying c y from) 1 refl (ready_costs c y from k)))

install_costs : (c : Cluster) (n : ℕ) (x : UpNode) (from : ℕ) (i : Install) → UpIsBounded x → Costs 1 (members.on_install c n x from i)
install_costs c n x from i h =
    either_costs (is_in x i.epoch) (members.on_install_as c n x from i x.seat) _ 1 (install_as_costs c n x from i x.seat h) (answers from (body.Nack i.epoch (promised_of x)) x 1 (omega arith) h)

start_costs : (n : ℕ) (x : UpNode) (e : ℕ) (seat : Seat) → UpIsBounded x → Costs 1 (members.on_start_as n x e seat)
start_costs n x e (Member s) h = stays x 1 h
start_costs n x e (Forming s) h =
    let y : UpNode = sitting x s in
    let k : UpIsBounded y = record { own = h.own; few = h.few; presides = h.presides } in
    let member : Costs 1 (telling_of n (note.Member e) (Stays y)) = tells _ (Stays y) 1 refl (stays y 1 k) in
    either_costs (attempts.starts_now s e) _ (Stays x) 1 (either_costs (is_some s.saved.entries.pending) _ _ 1 (keeps n y (telling_of n (note.Member e) (Stays y)) 1 member) member) (stays x 1 h)

taken_costs : (c : Cluster) (n : ℕ) (x : UpNode) (from : ℕ) (m : Message) (o : Option AttemptState) → IfSome o AttemptIsBounded → UpIsBounded x → Costs 130 (members.on_answer c n x from m o)
taken_costs c n x from m None f h = stays x 130 h
taken_costs c n x from m (Some a) f h = goes_on c n x (turn a (Take from m)) (turn_is_brief a (Take from m) tt f) h

-- one message at most
one : (p : Plan) → Costs 1 p → Costs 3587 p
one p h = costs_less p 1 3587 (omega arith) h

of_attempt : (p : Plan) → Costs 130 p → Costs 3587 p
of_attempt p h = costs_less p 130 3587 (omega arith) h

of_president : (p : Plan) → Costs 3296 p → Costs 3587 p
of_president p h = costs_less p 3296 3587 (omega arith) h

body_costs : (c : Cluster) (n : ℕ) (outcome : Outcome) (x : UpNode) (from : ℕ) (m : Message) (b : Body) → IsNode n → IsNode from → UpIsBounded x
    → Costs 3587 (members.on_body c n outcome x from m b)
body_costs c n outcome x from m (body.Heartbeat promised session member) own is h = one _ (beats_costs n x from session member h)
body_costs c n outcome x from m (body.Collect p set) own is h = one _ (collect_costs n x from p h)
body_costs c n outcome x from m (body.Promise p installed set valid flagged committed pending) own is h = of_attempt _ (taken_costs c n x from m x.attempt h.own h)
body_costs c n outcome x from m (body.Nack p promised) own is h = of_attempt _ (taken_costs c n x from m x.attempt h.own h)
body_costs c n outcome x from m (body.SeizeQuorum p set d) own is h = one _ (seize_costs c n x from Vote p set d h)
body_costs c n outcome x from m (body.SeizeData p set d) own is h = one _ (seize_costs c n x from Plain p set d h)
body_costs c n outcome x from m (body.Seized p d result) own is h = of_attempt _ (taken_costs c n x from m x.attempt h.own h)
body_costs c n outcome x from m (body.Install i) own is h = one _ (install_costs c n x from i h)
body_costs c n outcome x from m (body.Ready p joined report) own is h = of_attempt _ (taken_costs c n x from m x.attempt h.own h)
body_costs c n outcome x from m (body.Start p) own is h = one _ (start_costs n x p x.seat h)
body_costs c n outcome x from m (body.Prepare p place text) own is h = one _ (prepare_costs c n x from p place text x.seat h)
body_costs c n outcome x from m (body.Prepared p place) own is h = costs_less _ 3361 3587 (omega arith) (prepared_costs c n x from p place own h)
body_costs c n outcome x from m (body.Commit p place) own is h = costs_less _ 0 3587 (omega arith) (commit_costs n x p place x.seat h)
body_costs c n outcome x from m (body.Order o) own is h = one _ (order_costs c n outcome x from o h)
body_costs c n outcome x from m (body.Done p number ended) own is h = costs_less _ 3328 3587 (omega arith) (done_costs c n x from p number ended own h)
body_costs c n outcome x from m (body.Request p number text) own is h = of_president _ (asked_costs c n x from p number text own is h)
body_costs c n outcome x from m (body.Answer p number text) own is h = of_president _ (reply_costs c n x p number (answer_in text) own h)
body_costs c n outcome x from m (body.Excluded p newest) own is h = either_costs (is_in x p) (Falls _) (Stays x) 3587 (falls _ 3587) (stays x 3587 h)

packet_costs : (c : Cluster) (n : ℕ) (outcome : Outcome) (x : UpNode) (from : ℕ) (m : Message) → IsNode n → IsNode from → UpIsBounded x → Costs 3587 (members.on_packet c n outcome x from m)
packet_costs c n outcome x from m own is h =
    let y : UpNode = hearing x from m.body in
    let k : UpIsBounded y = record { own = h.own; few = h.few; presides = h.presides } in
    either_costs (is_foreign c n x m.body) (Stays x) (members.on_body c n outcome y from m m.body) 3587 (stays x 3587 h) (body_costs c n outcome y from m m.body own is k)

-- Devices.

distrust_costs : (n : ℕ) (x : UpNode) (o : Option ℕ) → UpIsBounded x → Costs 3587 (devices.distrusting_at n x o)
distrust_costs n x None h = stays x 3587 h
distrust_costs n x (Some d) h =
    let k : UpIsBounded (distrusting x d) = record { own = h.own; few = h.few; presides = h.presides } in
    either_costs (has (record_of x).valid d) _ (Stays x) 3587 (keeps n (distrusting x d) (Stays (distrusting x d)) 3587 (stays (distrusting x d) 3587 k)) (stays x 3587 h)

own_seized_costs : (c : Cluster) (n : ℕ) (x : UpNode) (d : ℕ) (result : SeizeResult) (o : Option AttemptState) → IfSome o AttemptIsBounded → UpIsBounded x → Costs 130 (devices.own_seized c n x d result o)
own_seized_costs c n x d result None f h = stays x 130 h
own_seized_costs c n x d result (Some a) f h = goes_on c n x (turn a (Own_seized d result)) (turn_is_brief a (Own_seized d result) tt f) h

seized_costs : (c : Cluster) (n : ℕ) (x : UpNode) (d : ℕ) (result : SeizeResult) (o : Option ℕ) → UpIsBounded x → Costs 130 (devices.seized_for c n x d result o)
seized_costs c n x d result None h = stays x 130 h
seized_costs c n x d result (Some coordinator) h =
    either_costs (coordinator == n) _ _ 130 (own_seized_costs c n x d result x.attempt h.own h) (answers coordinator (body.Seized (session_of x) d result) x 130 (omega arith) h)

joined_costs : (c : Cluster) (n : ℕ) (x : UpNode) (o : Option ℕ) → UpIsBounded x → Costs 130 (devices.joined_for c n x o)
joined_costs c n x None h = stays x 130 h
joined_costs c n x (Some coordinator) h =
    either_costs (coordinator == n) _ _ 130 (costs_less (attempts.own_ready c n x) 65 130 (omega arith) (own_ready_costs c n x h))
    (costs_less (members.readying c x coordinator) 1 130 (omega arith) (ready_costs c x coordinator h))

joins_costs : (c : Cluster) (n : ℕ) (x : UpNode) (d : ℕ) (result : JoinResult) → UpIsBounded x → Costs 130 (devices.joined_here c n x d result)
joins_costs c n x d join.Joined h =
    let y : UpNode = joining_so x d in
    let k : UpIsBounded y = record { own = h.own; few = h.few; presides = h.presides } in
    keeps n y (devices.joined_all c n y) 130 (joined_costs c n y (coordinator_of y) k)
joins_costs c n x d (join.Late w) h = joined_costs c n x (coordinator_of x) h
joins_costs c n x d join.Fault h = joined_costs c n x (coordinator_of x) h

progress_costs : (c : Cluster) (n : ℕ) (x : UpNode) (p : Progress) → UpIsBounded x → Costs 130 (devices.on_progress c n x p)
progress_costs c n x progress.GoesOn h = stays x 130 h
progress_costs c n x (progress.Seized d result) h = seized_costs c n x d result (coordinator_of x) h
progress_costs c n x (progress.Joined d result) h = joins_costs c n x d result h

answer_costs : (c : Cluster) (n : ℕ) (x : UpNode) (a : Answer) (o : Option ℕ) (p : Option PrCommand) → UpIsBounded x → Costs 130 (devices.answered_with c n x a o p)
answer_costs c n x a (Some d) (Some command) h =
    tells _ _ 130 refl (progress_costs c n _ (progress_after x.tasks a) (record { own = h.own; few = h.few; presides = h.presides }))
answer_costs c n x a None p h = stays x 130 h
answer_costs c n x a (Some d) None h = stays x 130 h

write_costs : (n : ℕ) (x : UpNode) (d value : ℕ) (a : Answer) → UpIsBounded x → Costs 0 (devices.write_ended n x d value a)
write_costs n x d value (Ok given.Good) h = tells _ (Stays x) 0 refl (stays x 0 h)
write_costs n x d value (Ok given.Conflict) h = tells _ (Falls _) 0 refl (falls _ 0)
write_costs n x d value _ h = tells _ (Stays x) 0 refl (stays x 0 h)

-- The law.

step_costs : (c : Cluster) (n : ℕ) (outcome : Outcome) (x : UpNode) (i : Input) → length c.attached ≤ 16 → IsNode n → IsFromNode i → UpIsBounded x → Costs 3587 (plan_of c n outcome x i)
step_costs c n outcome x input.Boot few is from h = stays x 3587 h
step_costs c n outcome x input.Crash few is from h = falls _ 3587
step_costs c n outcome x input.Tick few is from h = tick_costs c n outcome x few is h
step_costs c n outcome x (input.Packet sender m) few is from h = packet_costs c n outcome x sender m is from h
step_costs c n outcome x input.CommandDue few is from h = distrust_costs n x (begins_plainly x.tasks) h
step_costs c n outcome x (input.Answered a) few is from h = of_attempt _ (answer_costs c n x a (due_device x.tasks) (next_of x.tasks) h)
step_costs c n outcome x (input.Wrote d value a) few is from h =
    costs_less _ 0 3587 (omega arith) (tells _ (devices.write_ended n x d value a) 0 refl (write_costs n x d value a h))
step_costs c n outcome x (input.Commanded words) few is from h = of_president _ (command_costs c n x words is h)
step_costs c n outcome x (input.Reported r good) few is from h = of_president _ (report_costs c n x r good is h)
step_costs c n outcome x (input.Client address client port) few is from h = costs_less _ 0 3587 (omega arith) (client_costs c x address client port h)

far_below : (k : ℕ) → k ≤ 3587 → k ≤ 4096
far_below k h = omega (arith, h)

pub steps_send_few : StepsSendFew
steps_send_few c n outcome x i few is from h = far_below _ (step_costs c n outcome x i few is from h).few

pub steps_stay_bounded : StepsStayBounded
steps_stay_bounded c n outcome x i few is from h = (step_costs c n outcome x i few is from h).ends
