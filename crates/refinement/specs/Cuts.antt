-- The course of each step of a node.
use Rattle.std.specs.Prelude.{ℕ, zero, suc, ◌==◌, ◌&&◌, nat_le, nat_lt, not, Bool, true, List, [], ◌∷◌, length, Option, None, Some, Result, Ok, Err, is_some, if◌then◌else◌}
use Rattle.std.specs.Option.{unwrap_or}
use Rattle.admin_commands.specs.declared.accepted.Accepted.{Accepted}
use Rattle.admin_commands.specs.declared.accepted.Accepted.TheVariants as accepted
use Rattle.admin_commands.specs.declared.error.CheckError.{CheckError}
use Rattle.admin_commands.specs.declared.error.CheckError.TheVariants as because
use Rattle.admin_words.specs.Commands.{command_of, request_of}
use Rattle.admin_words.specs.declared.error.WordError.{WordError}
use Rattle.admin_words.specs.declared.request.Request.TheVariants as asked
use Rattle.admin_words.specs.declared.request.Request as wanted
use Rattle.answer_words.specs.Answers.{answer_in}
use Rattle.ccr_commit.specs.Entries.{answer_for, texts_of}
use Rattle.ccr_commit.specs.declared.entries.Prepared.{Prepared}
use Rattle.ccr_commit.specs.declared.entries.Prepared.TheVariants.{Taken, Already, Gap}
use Rattle.ccr_tables.specs.State.{ConfigState}
use Rattle.ccr_tables.specs.declared.command.AdminCommand.{AdminCommand}
use Rattle.ccr_tables.specs.declared.command.AdminCommand.TheVariants as wish
use Rattle.cl_base.specs.Sets.{has}
use Rattle.cl_base.specs.declared.command.Ask.{Ask}
use Rattle.cl_base.specs.declared.method.Outcome.{Outcome}
use Rattle.cl_base.specs.declared.method.Outcome.TheVariants.{Success}
use Rattle.cl_base.specs.Seizings.{SeizeResult}
use Rattle.cl_base.specs.declared.panic.Panic.TheVariants as panic
use Rattle.cl_base.specs.declared.seizing.SeizeEnd.TheVariants as seized
use Rattle.cmm_attempt.specs.declared.step.AttemptEnd.{AttemptEnd}
use Rattle.cmm_attempt.specs.declared.step.Step.{Step}
use Rattle.cmm_attempt.specs.declared.step.Step.TheVariants as step
use Rattle.cmm_attempt.specs.Attempts.{AttemptState, Turn, beginning, newest_installed}
use Rattle.cmm_attempt.specs.Calls.{Call, Own_ready, Own_seized, Take, Tick as Call_tick, With_votes, starts_in, turn}
use Rattle.cmm_member.specs.Nodes.{NodeState}
use Rattle.device_queue.specs.declared.progress.Progress.{Progress}
use Rattle.device_queue.specs.declared.progress.Progress.TheVariants.{GoesOn, Seized, Joined}
use Rattle.device_queue.specs.Queue.{begins_plainly, due_device, joins, kept_of, next_of, progress_after}
use Rattle.pgr_device.specs.declared.command.PrAnswer.TheVariants as given
use Rattle.pgr_device.specs.declared.command.PrCommand.{PrCommand}
use Rattle.proposals.specs.Arrivals as arrivals
use Rattle.proposals.specs.Arrivals.{arrival_of, with_arrival}
use Rattle.proposals.specs.Proposing.{goes_again, is_prepared, prepared_by}
use Rattle.proposals.specs.State.{State, first_in, kept_at}
use Rattle.proposals.specs.declared.arrived.Arrival.{Arrival}
use Rattle.proposals.specs.declared.arrived.Arrival.TheVariants.{New, Waits as Waits_already, Answered as Answered_last, Past}
use Rattle.proposals.specs.declared.arrived.Arrived.{Arrived}
use Rattle.proposals.specs.declared.arrived.Kept.{Kept}
use Rattle.proposals.specs.declared.arrived.Proposed.{Proposed}
use Rattle.request_queue.specs.Queue as queue
use Rattle.request_queue.specs.Queue.{Queue, found, is_full, next_number, oldest, with_number, with_request}
use Rattle.request_queue.specs.declared.request.Request.{Request}
use Rattle.rgm_member.specs.Orders.{after_order, answer_to, outcome_in}
use Rattle.rgm_member.specs.Probes.{after_probe, probed}
use Rattle.rgm_member.specs.declared.carried.Carried.{Carried}
use Rattle.rgm_member.specs.declared.carried.Carried.TheVariants as carried
use Rattle.rgm_member.specs.declared.probed.Probed.{Probed}
use Rattle.rgm_member.specs.declared.probed.Probed.TheVariants as probe
use Rattle.rgm_president.specs.Decisions as decisions
use Rattle.rgm_state.specs.Outcomes as order
use Rattle.seize.specs.Answers.{Answer as DeviceAnswer}
use Rattle.seize.specs.declared.kind.JoinResult.{JoinResult}
use Rattle.seize.specs.declared.kind.JoinResult.TheVariants as join
use Rattle.seize.specs.declared.kind.SeizeKind.{SeizeKind}
use Rattle.seize.specs.declared.kind.SeizeKind.TheVariants.{Vote, Plain}
use Rattle.status_report.specs.CommandLines.{reply_text}
use Rattle.status_report.specs.declared.command_entry.Answer.{Answer}
use Rattle.status_report.specs.declared.command_entry.Answer.TheVariants as answer
use Rattle.status_report.specs.declared.call_entry.ProbeResult.TheVariants as result
use Rattle.status_report.specs.declared.command_entry.CommandEntry.TheVariants as command
use Rattle.status_report.specs.declared.entry.Entry.TheVariants as entry
use Rattle.status_report.specs.declared.node_entry.DownCause.TheVariants as down
use Rattle.status_report.specs.declared.status_entry.StatusEntry.{StatusEntry}
use Rattle.update_words.specs.Words.{ask_words_of, words_of}
use Rattle.wire.specs.declared.message.Body.{Body}
use Rattle.wire.specs.declared.message.Body.TheVariants as body
use Rattle.wire.specs.declared.message.Install.{Install}
use Rattle.wire.specs.declared.message.Message.{Message}
use Rattle.wire.specs.declared.message.Order.{Order}
use Rattle.node_model.specs.Addresses.{request_for, served_lines}
use Rattle.ccr_tables.specs.declared.address.Address.{Address}
use Rattle.rg_props.specs.Lookups.{named}
use Rattle.shared_address.specs.Choosing as serving
use Rattle.shared_address.specs.History.{with_state}
use Rattle.shared_address.specs.History as clients
use Rattle.node_model.specs.declared.cluster.Cluster.{Cluster}
use Rattle.node_model.specs.declared.input.Input.{Input}
use Rattle.node_model.specs.declared.input.Input.TheVariants.{Boot, Crash, Tick, Packet, CommandDue, Answered, Wrote, Commanded, Reported, Client}
use Rattle.node_model.specs.declared.node.Node.{Node}
use Rattle.node_model.specs.declared.node.Node.TheVariants.{Down, Up}
use Rattle.node_model.specs.declared.node.UpNode.{UpNode}
use Rattle.node_model.specs.declared.output.Output.{Output}
use Rattle.node_model.specs.declared.output.Output.TheVariants.{Tells}
use Rattle.node_model.specs.declared.presidency.Presidency.{Presidency}
use Rattle.node_model.specs.declared.seat.Seat.{Seat}
use Rattle.node_model.specs.declared.seat.Seat.TheVariants.{Forming, Member}
use Rattle.node_model.specs.Attempts.{begins_install, installs_now, is_choosing, left_out_by, next_epoch, promise_of, starts_now, votes_in}
use Rattle.node_model.specs.Configurations.{in_force, own_config}
use Rattle.node_model.specs.Deciding.{is_held_up, may_order, orders_sent, with_turn}
use Rattle.node_model.specs.Devices.{joining_so}
use Rattle.node_model.specs.Groups.{asked_by, is_last, monitor_asked, order_told, orders_again, own_order, report_told, reported, result_of, with_ended}
use Rattle.node_model.specs.Members.{awaits_start, hearing, is_foreign, promised_so, ready_of}
use Rattle.node_model.specs.Entries.{answered_line}
use Rattle.node_model.specs.Presidents.{answer_given, checked, committing, is_busy, is_clear, last_place, next_place, orders_for, others_of, own_arrival, own_line, proposed_by, query_lines, requests_of, taken_up, told_lines, with_act, with_own, with_proposals, word_answer}
use Rattle.node_model.specs.Requests.{is_idle, numbered, waiting_with}
use Rattle.node_model.specs.Seats.{coordinator_of, installed_of, is_in, is_member, promised_of, promising, record_of, session_of, state_of, version_of}
use Rattle.node_model.specs.Ticks.{later, members_to_form, waiting_less}
use Rattle.node_model.specs.Steps.{at_second}
use Rattle.node_model.specs.Updates.{commits_now, is_of_member}
use Rattle.refinement.specs.Doings.{Change, Doing, answered_so, changed, going, minded}
use Rattle.refinement.specs.Doings.Doing.{Comes_up, Goes_down}
use Rattle.refinement.specs.Doings.Act.{Accepts, Dates, Ends, Gives, Goes_on, Hears, Makes, Minds, Notes, Queues, Spreads, Stores, Takes, Ticks, Waits, Works, Writes}
use Rattle.refinement.specs.Doings.Change.{Acks, Admits, Commits, Counts, Distrusts, Installs, Leads, Prepares, Promises, Proposes, Sits, Starts}
use Rattle.refinement.specs.Courses.{Course, Reply, joined, under}
use Rattle.refinement.specs.Courses.Reply.{Done, Lost_new, Lost_old}
use Rattle.refinement.specs.Courses.Course.{Acts, Falls, Keeps, Stops}

abbrev pub writing : ℕ → Body → Course
writing to b = Acts (Writes to b) Stops

-- what is said, and nothing else
abbrev pub giving : List Output → Course
giving os = Acts (Gives os) Stops

-- The president decides.

abbrev pub decided_course : ℕ → UpNode → Presidency → decisions.Turn → Course
decided_course me x p t = Acts (Gives (orders_sent me t.orders)) (Acts (Minds x.requests (Some (with_turn me p t))) Stops)

abbrev pub deciding_by_course : Cluster → ℕ → UpNode → Option Presidency → Course
deciding_by_course c me x None = Stops
deciding_by_course c me x (Some p) =
    if may_order p.groups then decided_course me x p (decisions.decision (in_force c x) x.second (is_held_up p) p.groups) else Stops

abbrev pub deciding_course : Cluster → ℕ → UpNode → Course
deciding_course c me x = deciding_by_course c me x x.presidency

-- The steps of an attempt, but for an install and a start here, which come first among them.

abbrev pub excluded_course : ℕ → ℕ → ℕ → Option ℕ → Course
excluded_course me e newest None = Stops
excluded_course me e newest (Some m) = if m == me then Falls (down.Panic (panic.Excluded newest)) else writing m (body.Excluded e newest)

abbrev pub ended_course : ℕ → AttemptEnd → Option AttemptState → Course
ended_course me e None = Stops
ended_course me e (Some a) = Acts (Ends a e) (excluded_course me a.plan.epoch (unwrap_or (newest_installed a) 0) (left_out_by e))

abbrev pub queued_course : ℕ → SeizeKind → Option AttemptState → Course
queued_course d kind None = Stops
queued_course d kind (Some a) = Acts (Queues a d kind) Stops

abbrev pub step_course : ℕ → UpNode → Step → Course
step_course me x (step.Send to m) = writing to m.body
step_course me x (step.SeizeHere d kind) = queued_course d kind x.attempt
step_course me x (step.NeedVotes n) = Stops
step_course me x (step.InstallHere i) = Stops
step_course me x step.StartHere = Stops
step_course me x (step.Ended e) = ended_course me e x.attempt

abbrev pub steps_course : Cluster → ℕ → UpNode → List Step → Course
steps_course c me x [] = Stops
steps_course c me x (s ∷ steps) = joined c me x (step_course me x s) (λ y. steps_course c me y steps)

-- An attempt takes a call, and then its steps are done. An install here is one change with the call, and so is a start.

abbrev pub kept_if : Bool → Change → Course → Course
kept_if keeps change rest = if keeps then Keeps change rest else Acts (Makes change) rest

abbrev pub gone_on : Cluster → ℕ → UpNode → AttemptState → Call → List Step → Course
gone_on c me x a k steps = Acts (Goes_on a k) (steps_course c me (going x a k) steps)

abbrev pub counted : Cluster → ℕ → UpNode → AttemptState → Call → Install → List Step → Seat → Course
counted c me x a k i rest (Member s) = gone_on c me x a k rest
counted c me x a k i rest (Forming s) =
    if installs_now s i then Keeps (Counts a k s i) (steps_course c me (changed c me x (Counts a k s i)) rest) else gone_on c me x a k rest

abbrev pub started : Cluster → ℕ → UpNode → AttemptState → Call → List Step → Seat → Course
started c me x a k rest (Member s) = gone_on c me x a k rest
started c me x a k rest (Forming s) =
    if starts_now s (turn a k).after.plan.epoch
    then kept_if (is_some s.saved.entries.pending) (Starts a k s) (steps_course c me (changed c me x (Starts a k s)) rest)
    else gone_on c me x a k rest

abbrev pub turned_by : Cluster → ℕ → UpNode → AttemptState → Call → List Step → Course
turned_by c me x a k [] = gone_on c me x a k []
turned_by c me x a k (step.InstallHere i ∷ rest) = counted c me x a k i rest x.seat
turned_by c me x a k (step.StartHere ∷ rest) = started c me x a k rest x.seat
turned_by c me x a k (step.Send to m ∷ rest) = gone_on c me x a k (step.Send to m ∷ rest)
turned_by c me x a k (step.SeizeHere d kind ∷ rest) = gone_on c me x a k (step.SeizeHere d kind ∷ rest)
turned_by c me x a k (step.NeedVotes n ∷ rest) = gone_on c me x a k (step.NeedVotes n ∷ rest)
turned_by c me x a k (step.Ended e ∷ rest) = gone_on c me x a k (step.Ended e ∷ rest)

abbrev pub turned : Cluster → ℕ → UpNode → AttemptState → Call → Course
turned c me x a k = turned_by c me x a k (turn a k).steps

-- where the membership has started, the president decides
abbrev pub if_started : Cluster → ℕ → List Step → UpNode → Course
if_started c me steps y = if starts_in steps then deciding_course c me y else Stops

abbrev pub turned_all : Cluster → ℕ → UpNode → AttemptState → Call → Course
turned_all c me x a k = joined c me x (turned c me x a k) (if_started c me (turn a k).steps)

abbrev pub readied_course : Cluster → ℕ → UpNode → Option AttemptState → Course
readied_course c me x None = Stops
readied_course c me x (Some a) = turned_all c me x a Own_ready

abbrev pub own_ready_course : Cluster → ℕ → UpNode → Course
own_ready_course c me x = if joins x.tasks then Stops else readied_course c me x x.attempt

abbrev pub if_installed : Cluster → ℕ → List Step → UpNode → Course
if_installed c me steps y = if begins_install steps then own_ready_course c me y else Stops

abbrev pub called : Cluster → ℕ → UpNode → AttemptState → Call → Course
called c me x a k = joined c me x (turned_all c me x a k) (if_installed c me (turn a k).steps)

-- the votes are given at once where the attempt asks for them
abbrev pub going_course : Cluster → ℕ → UpNode → AttemptState → Call → Course
going_course c me x a k =
    if is_choosing (turn a k).after.phase
    then Acts (Goes_on a k) (called c me (going x a k) (turn a k).after (With_votes (votes_in c (turn a k).after)))
    else called c me x a k

-- An attempt begins.

abbrev pub begun_course : Cluster → ℕ → UpNode → Turn → Course
begun_course c me x t =
    if is_choosing t.after.phase
    then called c me x t.after (With_votes (votes_in c t.after))
    else steps_course c me x t.steps

abbrev pub first_turn : Cluster → ℕ → UpNode → ℕ → ℕ → Turn
first_turn c me x p members =
    beginning p members (record { sender = me; body = promise_of (record (promising x p) { greatest = p }) p }) c.attached c.id

abbrev pub leading_course : Cluster → ℕ → UpNode → ℕ → ℕ → Course
leading_course c me x p members =
    if nat_lt (promised_of x) p
    then Keeps (Leads p members) (begun_course c me (changed c me x (Leads p members)) (first_turn c me x p members))
    else Stops

-- A tick: its attempt.

abbrev pub forming_course : Cluster → ℕ → UpNode → Option ℕ → Course
forming_course c me x None = Stops
forming_course c me x (Some members) = leading_course c me x (next_epoch me x) members

abbrev pub ticked_course : Cluster → ℕ → UpNode → Option AttemptState → Course
ticked_course c me x (Some a) = going_course c me x a Call_tick
ticked_course c me x None =
    if nat_le 1 x.beats.wait then Acts Waits Stops
    else Acts Waits (forming_course c me (waiting_less x) (members_to_form c me (waiting_less x)))

-- Messages.

abbrev pub heartbeat_course : ℕ → UpNode → ℕ → ℕ → Bool → Course
heartbeat_course me x from session member = if awaits_start me x from session member then writing from (body.Start (session_of x)) else Stops

abbrev pub collect_course : UpNode → ℕ → ℕ → Course
collect_course x from p =
    if nat_lt (promised_of x) p
    then Keeps (Promises p) (writing from (promise_of (promised_so x p) p))
    else (if is_in x p then writing from (promise_of x p) else writing from (body.Nack p (promised_of x)))

abbrev pub request_course : UpNode → ℕ → SeizeKind → ℕ → ℕ → ℕ → Option SeizeResult → Course
request_course x from kind e members d (Some result) = writing from (body.Seized e d result)
request_course x from kind e members d None =
    if installed_of x == e then writing from (body.Seized e d seized.Fault) else Acts (Accepts kind e members d) Stops

abbrev pub seizing_course : UpNode → ℕ → SeizeKind → ℕ → ℕ → ℕ → Course
seizing_course x from kind e members d = if is_in x e then request_course x from kind e members d (kept_of x.tasks d) else Stops

abbrev pub readying_course : Cluster → UpNode → ℕ → Course
readying_course c x to = if joins x.tasks then Stops else writing to (ready_of c x)

abbrev pub installed_course : Cluster → ℕ → UpNode → ℕ → Install → Seat → Course
installed_course c me x from i (Member s) = readying_course c x from
installed_course c me x from i (Forming s) =
    if s.saved.installed == i.epoch then readying_course c x from
    else Keeps (Installs s i) (readying_course c (changed c me x (Installs s i)) from)

abbrev pub install_course : Cluster → ℕ → UpNode → ℕ → Install → Course
install_course c me x from i = if is_in x i.epoch then installed_course c me x from i x.seat else writing from (body.Nack i.epoch (promised_of x))

abbrev pub start_course : ℕ → Seat → Course
start_course e (Member s) = Stops
start_course e (Forming s) = if starts_now s e then kept_if (is_some s.saved.entries.pending) (Sits s e) Stops else Stops

abbrev pub notice_course : UpNode → ℕ → ℕ → Course
notice_course x e newest = if is_in x e then Falls (down.Panic (panic.Excluded newest)) else Stops

-- Requests at their president.

-- the first request is answered: what waits at the president itself, and what it has in hand
abbrev pub queue_by : ℕ → UpNode → Arrived → Queue
queue_by me x a = if a.from == me then queue.answered x.requests a.number else x.requests

abbrev pub in_hand : ℕ → UpNode → State → Arrived → State
in_hand me x s a = if a.from == me then with_own me s (oldest (queue.answered x.requests a.number)) else s

abbrev pub left_by_answer : ℕ → UpNode → Presidency → Arrived → Answer → Presidency
left_by_answer me x p a told = record p { proposals = in_hand me x (arrivals.answered p.proposals (reply_text told)) a }

abbrev pub left_answered : ℕ → UpNode → Presidency → Arrived → Answer → UpNode
left_answered me x p a told = minded x (queue_by me x a) (Some (left_by_answer me x p a told))

abbrev pub answering_course : Cluster → ℕ → UpNode → Presidency → Arrived → Answer → Course
answering_course c me x p a told =
    Acts (Gives (answer_given me x a told))
    (Acts (Minds (queue_by me x a) (Some (left_by_answer me x p a told))) (deciding_course c me (left_answered me x p a told)))

-- An update is acknowledged once each member has prepared it.

-- the president has taken up what is committed
abbrev pub with_committed : Cluster → UpNode → Presidency → List ℕ → Presidency
with_committed c x p text = taken_up (in_force c (committing x)) p (command_of (version_of c) text)

abbrev pub acks_of : Cluster → ℕ → UpNode → Presidency → Arrived → List ℕ → Change
acks_of c me x p a text = Acks (state_of x.seat) p (queue_by me x a) (left_by_answer me x (with_committed c x p text) a answer.Ok) text

abbrev pub acknowledged_course : Cluster → ℕ → UpNode → Presidency → Arrived → List ℕ → Course
acknowledged_course c me x p a text =
    Keeps (acks_of c me x p a text)
    (Acts (Spreads (others_of me x) (body.Commit (session_of x) (last_place x)))
    (Acts (Gives (answer_given me x a answer.Ok)) (deciding_course c me (changed c me x (acks_of c me x p a text)))))

abbrev pub acknowledging_text_course : Cluster → ℕ → UpNode → Presidency → Option Arrived → Option (List ℕ) → Course
acknowledging_text_course c me x p (Some a) (Some text) = acknowledged_course c me x p a text
acknowledging_text_course c me x p None text = Stops
acknowledging_text_course c me x p (Some a) None = Stops

abbrev pub acknowledging_by_course : Cluster → ℕ → UpNode → Option Presidency → Course
acknowledging_by_course c me x None = Stops
acknowledging_by_course c me x (Some p) = acknowledging_text_course c me x p (first_in p.proposals.arrived) (record_of x).entries.pending

abbrev pub acknowledging_course : Cluster → ℕ → UpNode → Course
acknowledging_course c me x = acknowledging_by_course c me x x.presidency

-- A request is taken up, and one with an update makes a proposal.

abbrev pub proposing_course : Cluster → ℕ → UpNode → Presidency → List ℕ → Course
proposing_course c me x p text =
    Keeps (Proposes (state_of x.seat) p text)
    (Acts (Spreads (others_of me x) (body.Prepare (session_of x) (next_place x) text))
    (if others_of me x == 0 then acknowledging_course c me (proposed_by c me x p text) else Stops))

-- To clear is an order.
abbrev pub acting_course : Cluster → ℕ → UpNode → Presidency → Arrived → Ask → Course
acting_course c me x p a ask =
    if may_order p.groups
    then Acts (Gives (orders_sent me (orders_for p.groups ask))) (answering_course c me x (with_act c me x p a ask) a answer.Ok)
    else Stops

abbrev pub taken_as_course : Cluster → ℕ → UpNode → Presidency → Arrived → Result Accepted CheckError → Course
taken_as_course c me x p a (Ok (accepted.Change u)) = proposing_course c me x p (words_of u)
taken_as_course c me x p a (Ok (accepted.Act ask)) = acting_course c me x p a ask
taken_as_course c me x p a (Ok (accepted.Query q)) = answering_course c me x p a answer.Ok
taken_as_course c me x p a (Err (because.Refused r)) = answering_course c me x p a (answer.Refused r)
taken_as_course c me x p a (Err because.NoMemory) = Stops

abbrev pub taken_course : Cluster → ℕ → UpNode → Presidency → Arrived → Result wanted.Request WordError → Course
taken_course c me x p a (Ok (asked.Change u)) = if is_busy p.groups then Stops else taken_as_course c me x p a (checked c x p (wish.Change u))
taken_course c me x p a (Ok (asked.Act ask)) =
    if is_busy p.groups && is_clear ask then Stops else taken_as_course c me x p a (checked c x p (wish.Act ask))
taken_course c me x p a (Err e) = answering_course c me x p a (word_answer e)

abbrev pub turn_of_course : Cluster → ℕ → UpNode → Presidency → Option Proposed → Option Arrived → Course
turn_of_course c me x p None (Some a) = taken_course c me x p a (request_of (version_of c) a.text)
turn_of_course c me x p None None = Stops
turn_of_course c me x p (Some proposed) first = Stops

abbrev pub turn_by_course : Cluster → ℕ → UpNode → Option Presidency → Course
turn_by_course c me x None = Stops
turn_by_course c me x (Some p) = turn_of_course c me x p p.proposals.proposed (first_in p.proposals.arrived)

abbrev pub one_turn_course : Cluster → ℕ → UpNode → Course
one_turn_course c me x = turn_by_course c me x x.presidency

abbrev pub turns_course : Cluster → ℕ → UpNode → ℕ → Course
turns_course c me x zero = Stops
turns_course c me x (suc k) = joined c me x (turns_course c me x k) (one_turn_course c me)

abbrev pub handling_course : Cluster → ℕ → UpNode → Course
handling_course c me x = turns_course c me x (requests_of x x.presidency)

-- A request comes.

abbrev pub kept_again_course : UpNode → ℕ → Option Kept → Course
kept_again_course x from None = Stops
kept_again_course x from (Some k) = writing from (body.Answer (session_of x) k.number k.text)

abbrev pub arrived_course : Cluster → ℕ → UpNode → Presidency → Arrived → Arrival → Course
arrived_course c me x p a New =
    let s : State = with_arrival p.proposals a New in
    Acts (Minds x.requests (Some (record p { proposals = s }))) (handling_course c me (with_proposals x p s))
arrived_course c me x p a Waits_already = Stops
arrived_course c me x p a Answered_last = kept_again_course x a.from (kept_at p.proposals.answers a.from)
arrived_course c me x p a Past = Stops

abbrev pub arriving_course : Cluster → ℕ → UpNode → Presidency → Arrived → Course
arriving_course c me x p a = arrived_course c me x p a (arrival_of p.proposals a.from a.number)

abbrev pub requested_course : Cluster → ℕ → UpNode → ℕ → ℕ → List ℕ → Option Presidency → Course
requested_course c me x from number text None = Stops
requested_course c me x from number text (Some p) = arriving_course c me x p (record { from = from; number = number; text = text })

abbrev pub asked_course : Cluster → ℕ → UpNode → ℕ → ℕ → ℕ → List ℕ → Course
asked_course c me x from e number text = if is_of_member x from e then requested_course c me x from number text x.presidency else Stops

-- Requests at the node that asks.

abbrev pub request_to_course : UpNode → Request → Option ℕ → Course
request_to_course x r None = Stops
request_to_course x r (Some president) = writing president (body.Request (session_of x) r.number r.text)

abbrev pub asking_of_course : Cluster → ℕ → UpNode → Request → Option Presidency → Course
asking_of_course c me x r None = request_to_course x r (coordinator_of x)
asking_of_course c me x r (Some p) = arriving_course c me x p (own_arrival me r)

abbrev pub asking_for_course : Cluster → ℕ → UpNode → Option Request → Course
asking_for_course c me x None = Stops
asking_for_course c me x (Some r) = asking_of_course c me x r x.presidency

abbrev pub asking_course : Cluster → ℕ → UpNode → Course
asking_course c me x = asking_for_course c me x (oldest x.requests)

-- A command.

abbrev pub replying_course : ℕ → ℕ → Answer → Course
replying_course me number told = giving (Tells (answered_line me number told) ∷ [])

abbrev pub asking_if_course : Bool → Cluster → ℕ → UpNode → Course
asking_if_course alone c me x = if alone then asking_course c me x else Stops

abbrev pub waiting_course : Cluster → ℕ → UpNode → ℕ → List ℕ → Course
waiting_course c me x number text =
    if is_full x.requests then replying_course me number answer.QueueFull
    else Acts (Minds (with_request x.requests (record { number = number; text = text; told = true; second = x.second })) x.presidency)
    (asking_if_course (is_idle x.requests.waiting) c me (waiting_with x number text))

abbrev pub elsewhere_course : ℕ → ℕ → Option ℕ → Course
elsewhere_course me number None = Stops
elsewhere_course me number (Some president) = replying_course me number (answer.Ask president)

abbrev pub telling_course : ℕ → ℕ → List StatusEntry → Course
telling_course me number lines = Acts (Gives (told_lines lines)) (replying_course me number answer.Ok)

abbrev pub query_course : ℕ → UpNode → Presidency → ℕ → ConfigState → Result Accepted CheckError → Course
query_course me x p number s (Ok (accepted.Query q)) = telling_course me number (query_lines x p s q)
query_course me x p number s (Ok (accepted.Change u)) = Stops
query_course me x p number s (Ok (accepted.Act ask)) = Stops
query_course me x p number s (Err (because.Refused r)) = replying_course me number (answer.Refused r)
query_course me x p number s (Err because.NoMemory) = Stops

abbrev pub queried_course : Cluster → ℕ → UpNode → ℕ → AdminCommand → Option Presidency → Course
queried_course c me x number question None = elsewhere_course me number (coordinator_of x)
queried_course c me x number question (Some p) =
    if is_full x.requests then replying_course me number answer.QueueFull else query_course me x p number (in_force c x) (checked c x p question)

abbrev pub commanded_course : Cluster → ℕ → UpNode → ℕ → AdminCommand → Course
commanded_course c me x number (wish.Change u) = waiting_course c me x number (words_of u)
commanded_course c me x number (wish.Act a) = waiting_course c me x number (ask_words_of a)
commanded_course c me x number (wish.Status q) = queried_course c me x number (wish.Status q) x.presidency
commanded_course c me x number (wish.Rows table) = queried_course c me x number (wish.Rows table) x.presidency

abbrev pub worded_course : Cluster → ℕ → UpNode → ℕ → Result AdminCommand WordError → Course
worded_course c me x number (Err e) = replying_course me number (word_answer e)
worded_course c me x number (Ok command) = if is_member x.seat then commanded_course c me x number command else replying_course me number answer.NotMember

abbrev pub command_course : Cluster → ℕ → UpNode → List ℕ → Course
command_course c me x words =
    Acts (Gives (Tells (entry.Command (command.Asked me (next_number x.requests))) ∷ []))
    (Acts (Minds (with_number x.requests) x.presidency) (worded_course c me (numbered x) (next_number x.requests) (command_of (version_of c) words)))

-- The president's answer.

abbrev pub replied_to_course : Cluster → ℕ → UpNode → ℕ → Answer → Option Request → Course
replied_to_course c me x number told None = Stops
replied_to_course c me x number told (Some r) =
    Acts (Gives (own_line me told (Some r)))
    (Acts (Minds (queue.answered x.requests number) x.presidency) (asking_course c me (record x { requests = queue.answered x.requests number })))

abbrev pub replied_course : Cluster → ℕ → UpNode → ℕ → Option Answer → Course
replied_course c me x number None = Stops
replied_course c me x number (Some told) = replied_to_course c me x number told (found x.requests.waiting number)

abbrev pub reply_course : Cluster → ℕ → UpNode → ℕ → ℕ → Option Answer → Course
reply_course c me x e number told = if is_member x.seat && is_in x e then replied_course c me x number told else Stops

-- Updates at members and at their president.

abbrev pub preparing_course : ℕ → ℕ → ℕ → NodeState → List ℕ → Prepared → Course
preparing_course from e place s text Taken = Keeps (Prepares s text) (writing from (body.Prepared e place))
preparing_course from e place s text Already = writing from (body.Prepared e place)
preparing_course from e place s text (Gap k) = Stops

abbrev pub prepare_course : UpNode → ℕ → ℕ → ℕ → List ℕ → Seat → Course
prepare_course x from e place text (Forming s) = Stops
prepare_course x from e place text (Member s) =
    if is_in x e then preparing_course from e place s text (answer_for (length (texts_of s.saved.entries)) place) else Stops

abbrev pub prepared_all_course : Cluster → ℕ → UpNode → Presidency → Course
prepared_all_course c me x p = if is_prepared p.proposals then joined c me x (acknowledging_course c me x) (handling_course c me) else Stops

abbrev pub prepared_at_course : Cluster → ℕ → UpNode → ℕ → ℕ → Option Presidency → Course
prepared_at_course c me x from place None = Stops
prepared_at_course c me x from place (Some p) =
    let s : State = prepared_by p.proposals from place in
    Acts (Notes from place p) (prepared_all_course c me (with_proposals x p s) (record p { proposals = s }))

abbrev pub prepared_course : Cluster → ℕ → UpNode → ℕ → ℕ → ℕ → Course
prepared_course c me x from e place = if is_of_member x from e then prepared_at_course c me x from place x.presidency else Stops

abbrev pub commit_course : UpNode → ℕ → ℕ → Seat → Course
commit_course x e place (Forming s) = Stops
commit_course x e place (Member s) = if is_in x e && commits_now s place then Keeps (Commits s) Stops else Stops

-- Orders: the president learns how one ended.

abbrev pub done_at_course : Cluster → ℕ → UpNode → ℕ → ℕ → Outcome → Option Presidency → Course
done_at_course c me x from number outcome None = Stops
done_at_course c me x from number outcome (Some p) =
    if order.is_due p.groups.view from number
    then Acts (Minds x.requests (Some (with_ended c x p from number outcome)))
    (joined c me (record x { presidency = Some (with_ended c x p from number outcome) })
    (deciding_course c me (record x { presidency = Some (with_ended c x p from number outcome) })) (handling_course c me))
    else Stops

abbrev pub done_course : Cluster → ℕ → UpNode → ℕ → ℕ → ℕ → Outcome → Course
done_course c me x from e number outcome = if is_of_member x from e then done_at_course c me x from number outcome x.presidency else Stops

-- A node carries one out.

abbrev pub carrying_course : Cluster → ℕ → UpNode → Order → Carried → Course
carrying_course c me x o how =
    Acts (Gives (order_told me o how))
    (if is_last c x o how then Falls (down.Panic (panic.Stop o.resource))
    else Acts (Works (after_order x.worker (own_config c x) o x.second how)) Stops)

abbrev pub order_answered_course : ℕ → Order → Carried → UpNode → Course
order_answered_course from o carried.Old x = Stops
order_answered_course from o (carried.Called outcome) x = writing from (body.Done o.epoch o.number outcome)
order_answered_course from o carried.Cleared x = writing from (body.Done o.epoch o.number Success)
order_answered_course from o (carried.Kept outcome) x = writing from (body.Done o.epoch o.number outcome)

abbrev pub obeying_course : Cluster → ℕ → UpNode → ℕ → Order → Carried → Course
obeying_course c me x from o how = joined c me x (carrying_course c me x o how) (order_answered_course from o how)

abbrev pub order_course : Cluster → ℕ → Outcome → UpNode → ℕ → Order → Course
order_course c me outcome x from o =
    if is_member x.seat && is_in x o.epoch then obeying_course c me x from o (answer_to x.worker o outcome) else Stops

-- the president its own
abbrev pub own_done_course : Cluster → ℕ → Order → Carried → UpNode → Course
own_done_course c me o how x = done_at_course c me x me o.number (outcome_in how) x.presidency

abbrev pub own_turn_course : Cluster → ℕ → Outcome → UpNode → Option Order → Course
own_turn_course c me outcome x None = Stops
own_turn_course c me outcome x (Some o) =
    joined c me x (carrying_course c me x o (answer_to x.worker o outcome)) (own_done_course c me o (answer_to x.worker o outcome))

-- A tick: heartbeats, what the president does, what goes again, and the attempt.

abbrev pub prepares_course : UpNode → Option Proposed → Option (List ℕ) → Course → Course
prepares_course x (Some p) (Some text) rest = Acts (Spreads p.missing (body.Prepare (session_of x) p.place text)) rest
prepares_course x None text rest = rest
prepares_course x (Some p) None rest = rest

abbrev pub prepares_again_course : UpNode → Option Presidency → Course → Course
prepares_again_course x None rest = rest
prepares_again_course x (Some p) rest =
    if goes_again p.proposals then prepares_course x p.proposals.proposed (record_of x).entries.pending rest else rest

abbrev pub going_again_course : Cluster → ℕ → UpNode → UpNode → Course
going_again_course c me before x =
    prepares_again_course before before.presidency (Acts (Gives (orders_again before x)) (deciding_course c me x))

abbrev pub governing_course : Cluster → ℕ → Outcome → UpNode → UpNode → Course
governing_course c me outcome before x = joined c me x (own_turn_course c me outcome x (own_order me x)) (going_again_course c me before)

abbrev pub tick_course : Cluster → ℕ → Outcome → UpNode → Course
tick_course c me outcome x =
    Acts Ticks (joined c me (later c x) (governing_course c me outcome x (later c x)) (λ y. ticked_course c me y y.attempt))

-- A monitor reports.

abbrev pub asking_this_course : Cluster → ℕ → UpNode → Option Ask → Course
asking_this_course c me x None = Stops
asking_this_course c me x (Some ask) =
    if is_member x.seat && not (is_full x.requests)
    then Acts (Minds (monitor_asked x ask).requests x.presidency) (asking_if_course (is_idle x.requests.waiting) c me (monitor_asked x ask))
    else Stops

abbrev pub reporting_course : Cluster → ℕ → UpNode → List ℕ → Probed → Course
reporting_course c me x r probe.NoMonitor = Stops
reporting_course c me x r probe.Good =
    Acts (Gives (report_told me r result.Ok ∷ [])) (Acts (Works (after_probe x.worker (own_config c x) r x.second probe.Good)) Stops)
reporting_course c me x r (probe.Failed a) =
    Acts (Gives (report_told me r (result_of a) ∷ []))
    (Acts (Works (after_probe x.worker (own_config c x) r x.second (probe.Failed a)))
    (asking_this_course c me (reported x c r (probe.Failed a)) (asked_by a r)))

abbrev pub report_course : Cluster → ℕ → UpNode → List ℕ → Bool → Course
report_course c me x r good = reporting_course c me x r (probed x.worker (own_config c x) r good x.second)

-- A client's request.

abbrev pub balanced : Presidency → List ℕ → serving.Outcome → Presidency
balanced p name o = record p { balancer = with_state p.balancer name o.after }

abbrev pub serving_course : UpNode → Presidency → List ℕ → ℕ → ℕ → serving.Outcome → Course
serving_course x p name client port o = Acts (Gives (served_lines name client port o)) (Acts (Minds x.requests (Some (balanced p name o))) Stops)

abbrev pub serving_at_course : ConfigState → UpNode → Presidency → List ℕ → ℕ → ℕ → Option Address → Course
serving_at_course s x p name client port None = Stops
serving_at_course s x p name client port (Some a) = serving_course x p name client port (serving.chosen (clients.state_of p.balancer name) (request_for s p a client port))

abbrev pub serving_by_course : Cluster → UpNode → List ℕ → ℕ → ℕ → Option Presidency → Course
serving_by_course c x name client port None = Stops
serving_by_course c x name client port (Some p) = serving_at_course (in_force c x) x p name client port (named (in_force c x).addresses name)

abbrev pub client_course : Cluster → UpNode → List ℕ → ℕ → ℕ → Course
client_course c x name client port = serving_by_course c x name client port x.presidency

-- The answers to its own attempt, and each message.

abbrev pub answer_course : Cluster → ℕ → UpNode → ℕ → Message → Option AttemptState → Course
answer_course c me x from m None = Stops
answer_course c me x from m (Some a) = going_course c me x a (Take from m)

abbrev pub body_course : Cluster → ℕ → Outcome → UpNode → ℕ → Message → Body → Course
body_course c me outcome x from m (body.Heartbeat promised session member) = heartbeat_course me x from session member
body_course c me outcome x from m (body.Collect e members) = collect_course x from e
body_course c me outcome x from m (body.Promise e installed members valid flagged committed pending) = answer_course c me x from m x.attempt
body_course c me outcome x from m (body.Nack e promised) = answer_course c me x from m x.attempt
body_course c me outcome x from m (body.SeizeQuorum e members d) = seizing_course x from Vote e members d
body_course c me outcome x from m (body.SeizeData e members d) = seizing_course x from Plain e members d
body_course c me outcome x from m (body.Seized e d ended) = answer_course c me x from m x.attempt
body_course c me outcome x from m (body.Install i) = install_course c me x from i
body_course c me outcome x from m (body.Ready e joined_devices report) = answer_course c me x from m x.attempt
body_course c me outcome x from m (body.Start e) = start_course e x.seat
body_course c me outcome x from m (body.Excluded e newest) = notice_course x e newest
body_course c me outcome x from m (body.Prepare e place text) = prepare_course x from e place text x.seat
body_course c me outcome x from m (body.Prepared e place) = prepared_course c me x from e place
body_course c me outcome x from m (body.Commit e place) = commit_course x e place x.seat
body_course c me outcome x from m (body.Request e number text) = asked_course c me x from e number text
body_course c me outcome x from m (body.Answer e number text) = reply_course c me x e number (answer_in text)
body_course c me outcome x from m (body.Order o) = order_course c me outcome x from o
body_course c me outcome x from m (body.Done e number ended) = done_course c me x from e number ended

abbrev pub packet_course : Cluster → ℕ → Outcome → UpNode → ℕ → Message → Course
packet_course c me outcome x from m =
    if is_foreign c me x m.body then Stops else Acts (Hears from m.body) (body_course c me outcome (hearing x from m.body) from m m.body)

-- Devices.

abbrev pub distrusting_course : UpNode → Option ℕ → Course
distrusting_course x None = Stops
distrusting_course x (Some d) = if has (record_of x).valid d then Keeps (Distrusts d) Stops else Stops

abbrev pub own_seized_course : Cluster → ℕ → UpNode → ℕ → SeizeResult → Option AttemptState → Course
own_seized_course c me x d result None = Stops
own_seized_course c me x d result (Some a) = going_course c me x a (Own_seized d result)

abbrev pub seized_course : Cluster → ℕ → UpNode → ℕ → SeizeResult → Option ℕ → Course
seized_course c me x d result None = Stops
seized_course c me x d result (Some coordinator) =
    if coordinator == me then own_seized_course c me x d result x.attempt else writing coordinator (body.Seized (session_of x) d result)

abbrev pub joined_course : Cluster → ℕ → UpNode → Option ℕ → Course
joined_course c me x None = Stops
joined_course c me x (Some coordinator) = if coordinator == me then own_ready_course c me x else readying_course c x coordinator

abbrev pub joining_course : Cluster → ℕ → UpNode → ℕ → PrCommand → DeviceAnswer → ℕ → JoinResult → Course
joining_course c me x at command a d join.Joined =
    Keeps (Admits at command a d) (joined_course c me (joining_so (answered_so x a) d) (coordinator_of (joining_so (answered_so x a) d)))
joining_course c me x at command a d (join.Late w) = Acts (Takes at command a) (joined_course c me (answered_so x a) (coordinator_of (answered_so x a)))
joining_course c me x at command a d join.Fault = Acts (Takes at command a) (joined_course c me (answered_so x a) (coordinator_of (answered_so x a)))

abbrev pub progress_course : Cluster → ℕ → UpNode → ℕ → PrCommand → DeviceAnswer → Progress → Course
progress_course c me x at command a GoesOn = Acts (Takes at command a) Stops
progress_course c me x at command a (Seized d result) =
    Acts (Takes at command a) (seized_course c me (answered_so x a) d result (coordinator_of (answered_so x a)))
progress_course c me x at command a (Joined d result) = joining_course c me x at command a d result

abbrev pub answered_course : Cluster → ℕ → UpNode → DeviceAnswer → Option ℕ → Option PrCommand → Course
answered_course c me x a (Some d) (Some command) = progress_course c me x d command a (progress_after x.tasks a)
answered_course c me x a None command = Stops
answered_course c me x a (Some d) None = Stops

abbrev pub fenced_course : ℕ → DeviceAnswer → Course
fenced_course d (Ok given.Good) = Stops
fenced_course d (Ok given.Conflict) = Falls (down.Panic (panic.Fenced d))
fenced_course d _ = Stops

-- what a node that is up does
abbrev pub course_of : Cluster → ℕ → Outcome → UpNode → Input → Course
course_of c me outcome x Boot = Stops
course_of c me outcome x Crash = Falls down.Crash
course_of c me outcome x Tick = tick_course c me outcome x
course_of c me outcome x (Packet from message) = packet_course c me outcome x from message
course_of c me outcome x CommandDue = distrusting_course x (begins_plainly x.tasks)
course_of c me outcome x (Answered a) = answered_course c me x a (due_device x.tasks) (next_of x.tasks)
course_of c me outcome x (Wrote d value a) = Acts (Stores d value a) (fenced_course d a)
course_of c me outcome x (Commanded words) = command_course c me x words
course_of c me outcome x (Reported r good) = report_course c me x r good
course_of c me outcome x (Client name client port) = client_course c x name client port

-- .. at this second of the clock
abbrev pub course_at : Cluster → ℕ → ℕ → Outcome → UpNode → Input → Course
course_at c me now outcome x i = Acts (Dates now) (course_of c me outcome (at_second now x) i)

-- A boot: the node comes up, unless its record cannot be read.
abbrev pub boot_doings : List Reply → List Doing
boot_doings [] = Comes_up ∷ Goes_down down.Stopped ∷ []
boot_doings (Done ∷ replies) = Comes_up ∷ []
boot_doings (Lost_new why ∷ replies) = Comes_up ∷ Goes_down why ∷ []
boot_doings (Lost_old why ∷ replies) = Comes_up ∷ Goes_down why ∷ []

abbrev pub down_doings : List Reply → Input → List Doing
down_doings replies Boot = boot_doings replies
down_doings replies _ = []

-- the small steps of a node, where its disk replies so
abbrev pub doings : Cluster → ℕ → ℕ → Outcome → List Reply → Input → Node → List Doing
doings c me now outcome replies i Down = down_doings replies i
doings c me now outcome replies i (Up x) = under replies (course_at c me now outcome x i)
