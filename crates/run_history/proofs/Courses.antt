-- What a node does with each input has no deed but those of its changes, and what it acknowledges is pending.
use Rattle.std.specs.Prelude.{ℕ, zero, suc, ◌==◌, ◌&&◌, nat_le, nat_lt, not, Bool, true, List, [], ◌∷◌, length, Option, None, Some, Result, Ok, Err, is_some, if◌then◌else◌}
use Rattle.std.specs.Option.{unwrap_or}
use Rattle.admin_commands.specs.declared.accepted.Accepted.{Accepted}
use Rattle.admin_commands.specs.declared.accepted.Accepted.TheVariants as accepted
use Rattle.admin_commands.specs.declared.error.CheckError.{CheckError}
use Rattle.admin_commands.specs.declared.error.CheckError.TheVariants as because
use Rattle.admin_words.specs.Commands.{command_of, request_of}
use Rattle.admin_words.specs.declared.error.WordError.{WordError}
use Rattle.admin_words.specs.declared.request.Request.TheVariants as asked
use Rattle.admin_words.specs.declared.request.Request as wanted
use Rattle.answer_words.specs.Answers.{answer_in}
use Rattle.ccr_commit.specs.Entries.{answer_for, texts_of}
use Rattle.ccr_commit.specs.declared.entries.Prepared.{Prepared}
use Rattle.ccr_commit.specs.declared.entries.Prepared.TheVariants.{Taken, Already, Gap}
use Rattle.ccr_tables.specs.State.{ConfigState}
use Rattle.ccr_tables.specs.declared.command.AdminCommand.{AdminCommand}
use Rattle.ccr_tables.specs.declared.command.AdminCommand.TheVariants as wish
use Rattle.cl_base.specs.Sets.{has}
use Rattle.cl_base.specs.declared.command.Ask.{Ask}
use Rattle.cl_base.specs.declared.method.Outcome.{Outcome}
use Rattle.cl_base.specs.Seizings.{SeizeResult}
use Rattle.cmm_attempt.specs.declared.step.AttemptEnd.{AttemptEnd}
use Rattle.cmm_attempt.specs.declared.step.Step.{Step}
use Rattle.cmm_attempt.specs.declared.step.Step.TheVariants as step
use Rattle.cmm_attempt.specs.Attempts.{AttemptState, Turn, newest_installed}
use Rattle.cmm_attempt.specs.Calls.{Call, Own_ready, Own_seized, Take, Tick as Call_tick, With_votes, starts_in, turn}
use Rattle.cmm_member.specs.Nodes.{NodeState}
use Rattle.device_queue.specs.declared.progress.Progress.{Progress}
use Rattle.device_queue.specs.declared.progress.Progress.TheVariants.{GoesOn, Seized, Joined}
use Rattle.device_queue.specs.Queue.{begins_plainly, due_device, joins, kept_of, next_of, progress_after}
use Rattle.pgr_device.specs.declared.command.PrAnswer.TheVariants as given
use Rattle.pgr_device.specs.declared.command.PrCommand.{PrCommand}
use Rattle.proposals.specs.Arrivals.{arrival_of, with_arrival}
use Rattle.proposals.specs.Proposing.{goes_again, is_prepared, prepared_by}
use Rattle.proposals.specs.State.{State, first_in, kept_at}
use Rattle.proposals.specs.declared.arrived.Arrival.{Arrival}
use Rattle.proposals.specs.declared.arrived.Arrival.TheVariants.{New, Waits as Waits_already, Answered as Answered_last, Past}
use Rattle.proposals.specs.declared.arrived.Arrived.{Arrived}
use Rattle.proposals.specs.declared.arrived.Kept.{Kept}
use Rattle.proposals.specs.declared.arrived.Proposed.{Proposed}
use Rattle.request_queue.specs.Queue as queue
use Rattle.request_queue.specs.Queue.{Queue, found, is_full, next_number, oldest, with_number, with_request}
use Rattle.request_queue.specs.declared.request.Request.{Request}
use Rattle.rgm_member.specs.Orders.{answer_to, outcome_in}
use Rattle.rgm_member.specs.Probes.{probed}
use Rattle.rgm_member.specs.declared.carried.Carried.{Carried}
use Rattle.rgm_member.specs.declared.carried.Carried.TheVariants as carried
use Rattle.rgm_member.specs.declared.probed.Probed.{Probed}
use Rattle.rgm_member.specs.declared.probed.Probed.TheVariants as probe
use Rattle.rgm_president.specs.Decisions as decisions
use Rattle.rgm_state.specs.Outcomes as order
use Rattle.seize.specs.Answers.{Answer as DeviceAnswer}
use Rattle.seize.specs.declared.kind.JoinResult.{JoinResult}
use Rattle.seize.specs.declared.kind.JoinResult.TheVariants as join
use Rattle.seize.specs.declared.kind.SeizeKind.{SeizeKind}
use Rattle.seize.specs.declared.kind.SeizeKind.TheVariants.{Vote, Plain}
use Rattle.status_report.specs.declared.command_entry.Answer.{Answer}
use Rattle.status_report.specs.declared.command_entry.Answer.TheVariants as answer
use Rattle.status_report.specs.declared.status_entry.StatusEntry.{StatusEntry}
use Rattle.update_words.specs.Words.{ask_words_of, words_of}
use Rattle.wire.specs.declared.message.Body.{Body}
use Rattle.wire.specs.declared.message.Body.TheVariants as body
use Rattle.wire.specs.declared.message.Install.{Install}
use Rattle.wire.specs.declared.message.Message.{Message}
use Rattle.wire.specs.declared.message.Order.{Order}
use Rattle.node_model.specs.Addresses.{request_for, served_lines}
use Rattle.ccr_tables.specs.declared.address.Address.{Address}
use Rattle.rg_props.specs.Lookups.{named}
use Rattle.shared_address.specs.Choosing as serving
use Rattle.shared_address.specs.History.{with_state}
use Rattle.shared_address.specs.History as clients
use Rattle.node_model.specs.declared.cluster.Cluster.{Cluster}
use Rattle.node_model.specs.declared.input.Input.{Input}
use Rattle.node_model.specs.declared.input.Input.TheVariants.{Boot, Crash, Tick, Packet, CommandDue, Answered, Wrote, Commanded, Reported, Client}
use Rattle.node_model.specs.declared.node.Node.{Node}
use Rattle.node_model.specs.declared.node.Node.TheVariants.{Down, Up}
use Rattle.node_model.specs.declared.node.UpNode.{UpNode}
use Rattle.node_model.specs.declared.output.Output.{Output}
use Rattle.node_model.specs.declared.output.Output.TheVariants.{Sends, Tells}
use Rattle.node_model.specs.declared.presidency.Presidency.{Presidency}
use Rattle.node_model.specs.declared.seat.Seat.{Seat}
use Rattle.node_model.specs.declared.seat.Seat.TheVariants.{Forming, Member}
use Rattle.node_model.specs.Attempts.{begins_install, installs_now, is_choosing, left_out_by, next_epoch, starts_now, votes_in}
use Rattle.node_model.specs.Configurations.{in_force, own_config}
use Rattle.node_model.specs.Deciding.{is_held_up, may_order, orders_sent}
use Rattle.node_model.specs.Devices.{joining_so}
use Rattle.node_model.specs.Groups.{asked_by, is_last, monitor_asked, order_told, orders_again, own_order, reported, with_ended}
use Rattle.node_model.specs.Members.{awaits_start, hearing, is_foreign}
use Rattle.node_model.specs.Presidents.{answer_given, checked, is_busy, is_clear, orders_for, others_of, own_arrival, own_line, proposed_by, query_lines, requests_of, told_lines, with_act, with_proposals, word_answer}
use Rattle.node_model.specs.Requests.{is_idle, numbered, waiting_with}
use Rattle.node_model.specs.Seats.{coordinator_of, installed_of, is_in, is_member, promised_of, record_of, version_of}
use Rattle.node_model.specs.Ticks.{later, members_to_form, waiting_less}
use Rattle.node_model.specs.Steps.{at_second}
use Rattle.node_model.specs.Updates.{commits_now, is_of_member}
use Rattle.refinement.specs.Doings.{Change, answered_so, changed, going}
use Rattle.refinement.specs.Doings.Act.{Gives}
use Rattle.refinement.specs.Doings.Change.{Counts, Installs, Leads, Sits, Starts}
use Rattle.refinement.specs.Courses.{Course, Reply, joined, under}
use Rattle.refinement.specs.Courses.Reply.{Done, Lost_new, Lost_old}
use Rattle.refinement.specs.Courses.Course.{Acts, Falls, Keeps, Stops}
use Rattle.std.specs.Prelude.{◌≡◌, ◌++◌, false, flat_map}
use Rattle.std.proofs.Common.{refl}
use Rattle.cl_base.specs.Limits.{most_nodes}
use Rattle.cl_base.specs.Numbers.{numbers_to}
use Rattle.cl_base.specs.declared.method.Method.{Method}
use Rattle.cmm_attempt.proofs.Basics.{if_either}
use Rattle.shared_address.specs.declared.choice.Client.{Client as Remembered}
use Rattle.sent_orders.specs.Ticks.{due}
use Rattle.rgm_president.specs.State.{PresidentState}
use Rattle.node_model.specs.Addresses.{forgot_lines}
use Rattle.node_model.specs.Deciding.{order_sent}
use Rattle.node_model.specs.Groups.{call_told, order_again, order_again_to, order_at, orders_again_by, orders_again_of}
use Rattle.node_model.specs.declared.node.Node.{Node}
use Rattle.refinement.specs.Cuts as cuts
use Rattle.refinement.specs.Doings.{acted}
use Rattle.refinement.specs.Cuts.{acks_of, balanced, first_turn, left_answered}
use Rattle.run_history.specs.Marks.{AllSo, AreMinor, GoesSo, IsPending}

either_so : (b : Bool) (k l : Course) → GoesSo k → GoesSo l → GoesSo (if b then k else l)
either_so true k l h i = h
either_so false k l h i = i

then_so : (c : Cluster) (me : ℕ) (x : UpNode) (k : Course) (next : UpNode → Course) → GoesSo k → ((y : UpNode) → GoesSo (next y)) → GoesSo (joined c me x k next)
then_so c me x Stops next h i = i x
then_so c me x (Acts a rest) next h i = (h.0, then_so c me (acted c me x a) rest next h.1 i)
then_so c me x (Keeps change rest) next h i = (h.0, then_so c me (changed c me x change) rest next h.1 i)
then_so c me x (Falls why) next h i = tt

-- Minor lines.

minor_append : (os more : List Output) → AreMinor os → AreMinor more → AreMinor (os ++ more)
minor_append [] more h k = k
minor_append (Tells e ∷ os) more h k = (h.0, minor_append os more h.1 k)
minor_append (Sends to b ∷ os) more h k = minor_append os more h k

minor_each : {X : Type 0} → (f : X → List Output) (xs : List X) → ((x : X) → AreMinor (f x)) → AreMinor (flat_map f xs)
minor_each f [] h = tt
minor_each f (x ∷ xs) h = minor_append (f x) (flat_map f xs) (h x) (minor_each f xs h)

orders_minor : (me : ℕ) (orders : List (ℕ × Order)) → AreMinor (orders_sent me orders)
unfolding orders_sent
orders_minor me orders = minor_each (order_sent me) orders (λ e. if_either AreMinor (e.0 == me) [] _ tt tt)

own_minor : (me : ℕ) (told : Answer) (o : Option Request) → AreMinor (own_line me told o)
own_minor me told None = tt
own_minor me told (Some r) = if_either AreMinor r.told _ [] (tt, tt) tt

given_minor : (me : ℕ) (x : UpNode) (a : Arrived) (told : Answer) → AreMinor (answer_given me x a told)
given_minor me x a told = if_either AreMinor (a.from == me) (own_line me told (found x.requests.waiting a.number)) _ (own_minor me told (found x.requests.waiting a.number)) tt

told_minor : (lines : List StatusEntry) → AreMinor (told_lines lines)
told_minor [] = tt
told_minor (l ∷ lines) = (tt, told_minor lines)

call_minor : (me : ℕ) (o : Order) (outcome : Outcome) (m : Option Method) → AreMinor (call_told me o outcome m)
call_minor me o outcome None = tt
call_minor me o outcome (Some m) = (tt, (tt, tt))

order_minor : (me : ℕ) (o : Order) (how : Carried) → AreMinor (order_told me o how)
order_minor me o (carried.Called outcome) = call_minor me o outcome o.method
order_minor me o carried.Cleared = tt
order_minor me o (carried.Kept outcome) = tt
order_minor me o carried.Old = tt

order_again_minor : (n : ℕ) (o : Option Order) → AreMinor (order_again_to n o)
order_again_minor n None = tt
order_again_minor n (Some o) = tt

again_of_minor : (set : ℕ) (p : PresidentState) → AreMinor (orders_again_of set p)
unfolding orders_again_of
again_of_minor set p =
    minor_each (order_again set p) (numbers_to p.view.members most_nodes) (λ n. if_either AreMinor (has set n) (order_again_to n (order_at n p)) [] (order_again_minor n (order_at n p)) tt)

again_by_minor : (before after : Option Presidency) → AreMinor (orders_again_by before after)
again_by_minor None after = tt
again_by_minor (Some before) None = tt
again_by_minor (Some before) (Some after) = again_of_minor (due before.sent) after.groups

again_minor : (before x : UpNode) → AreMinor (orders_again before x)
again_minor before x = again_by_minor before.presidency x.presidency

forgot_minor : (name : List ℕ) (o : Option Remembered) → AreMinor (forgot_lines name o)
forgot_minor name None = tt
forgot_minor name (Some k) = (tt, tt)

served_minor : (name : List ℕ) (client port : ℕ) (o : serving.Outcome) → AreMinor (served_lines name client port o)
served_minor name client port o = minor_append (forgot_lines name o.forgot) _ (forgot_minor name o.forgot) (tt, tt)

-- Each course.

decided_so : (me : ℕ) (x : UpNode) (p : Presidency) (t : decisions.Turn) → GoesSo (cuts.decided_course me x p t)
decided_so me x p t = (orders_minor me t.orders, (tt, tt))

deciding_by_so : (c : Cluster) (me : ℕ) (x : UpNode) (o : Option Presidency) → GoesSo (cuts.deciding_by_course c me x o)
deciding_by_so c me x None = tt
deciding_by_so c me x (Some p) = either_so (may_order p.groups) _ _ (decided_so me x p (decisions.decision (in_force c x) x.second (is_held_up p) p.groups)) tt

deciding_so : (c : Cluster) (me : ℕ) (x : UpNode) → GoesSo (cuts.deciding_course c me x)
deciding_so c me x = deciding_by_so c me x x.presidency

excluded_so : (me e newest : ℕ) (o : Option ℕ) → GoesSo (cuts.excluded_course me e newest o)
excluded_so me e newest None = tt
excluded_so me e newest (Some m) = either_so (m == me) _ _ tt (tt, tt)

ended_so : (me : ℕ) (e : AttemptEnd) (o : Option AttemptState) → GoesSo (cuts.ended_course me e o)
ended_so me e None = tt
ended_so me e (Some a) = (tt, excluded_so me a.plan.epoch (unwrap_or (newest_installed a) 0) (left_out_by e))

queued_so : (d : ℕ) (kind : SeizeKind) (o : Option AttemptState) → GoesSo (cuts.queued_course d kind o)
queued_so d kind None = tt
queued_so d kind (Some a) = (tt, tt)

step_so : (me : ℕ) (x : UpNode) (s : Step) → GoesSo (cuts.step_course me x s)
step_so me x (step.Send to m) = (tt, tt)
step_so me x (step.SeizeHere d kind) = queued_so d kind x.attempt
step_so me x (step.NeedVotes n) = tt
step_so me x (step.InstallHere i) = tt
step_so me x step.StartHere = tt
step_so me x (step.Ended e) = ended_so me e x.attempt

steps_so : (c : Cluster) (me : ℕ) (x : UpNode) (steps : List Step) → GoesSo (cuts.steps_course c me x steps)
steps_so c me x [] = tt
steps_so c me x (s ∷ steps) = then_so c me x _ _ (step_so me x s) (λ y. steps_so c me y steps)

kept_if_so : (keeps : Bool) (change : Change) (rest : Course) → IsPending change → GoesSo rest → GoesSo (cuts.kept_if keeps change rest)
kept_if_so true change rest h k = (h, k)
kept_if_so false change rest h k = (h, k)

gone_on_so : (c : Cluster) (me : ℕ) (x : UpNode) (a : AttemptState) (k : Call) (steps : List Step) → GoesSo (cuts.gone_on c me x a k steps)
gone_on_so c me x a k steps = (tt, steps_so c me (going x a k) steps)

counted_so : (c : Cluster) (me : ℕ) (x : UpNode) (a : AttemptState) (k : Call) (i : Install) (rest : List Step) (seat : Seat) → GoesSo (cuts.counted c me x a k i rest seat)
counted_so c me x a k i rest (Member s) = gone_on_so c me x a k rest
counted_so c me x a k i rest (Forming s) = either_so (installs_now s i) _ _ (tt, steps_so c me (changed c me x (Counts a k s i)) rest) (gone_on_so c me x a k rest)

started_so : (c : Cluster) (me : ℕ) (x : UpNode) (a : AttemptState) (k : Call) (rest : List Step) (seat : Seat) → GoesSo (cuts.started c me x a k rest seat)
started_so c me x a k rest (Member s) = gone_on_so c me x a k rest
started_so c me x a k rest (Forming s) = either_so (starts_now s (turn a k).after.plan.epoch) _ _ (kept_if_so (is_some s.saved.entries.pending) (Starts a k s) (cuts.steps_course c me (changed c me x (Starts a k s)) rest) tt (steps_so c me (changed c me x (Starts a k s)) rest)) (gone_on_so c me x a k rest)

turned_by_so : (c : Cluster) (me : ℕ) (x : UpNode) (a : AttemptState) (k : Call) (steps : List Step) → GoesSo (cuts.turned_by c me x a k steps)
turned_by_so c me x a k [] = gone_on_so c me x a k []
turned_by_so c me x a k (step.InstallHere i ∷ rest) = counted_so c me x a k i rest x.seat
turned_by_so c me x a k (step.StartHere ∷ rest) = started_so c me x a k rest x.seat
turned_by_so c me x a k (step.Send to m ∷ rest) = gone_on_so c me x a k (step.Send to m ∷ rest)
turned_by_so c me x a k (step.SeizeHere d kind ∷ rest) = gone_on_so c me x a k (step.SeizeHere d kind ∷ rest)
turned_by_so c me x a k (step.NeedVotes n ∷ rest) = gone_on_so c me x a k (step.NeedVotes n ∷ rest)
turned_by_so c me x a k (step.Ended e ∷ rest) = gone_on_so c me x a k (step.Ended e ∷ rest)

turned_so : (c : Cluster) (me : ℕ) (x : UpNode) (a : AttemptState) (k : Call) → GoesSo (cuts.turned c me x a k)
turned_so c me x a k = turned_by_so c me x a k (turn a k).steps

if_started_so : (c : Cluster) (me : ℕ) (steps : List Step) (y : UpNode) → GoesSo (cuts.if_started c me steps y)
if_started_so c me steps y = either_so (starts_in steps) _ _ (deciding_so c me y) tt

turned_all_so : (c : Cluster) (me : ℕ) (x : UpNode) (a : AttemptState) (k : Call) → GoesSo (cuts.turned_all c me x a k)
turned_all_so c me x a k = then_so c me x _ _ (turned_so c me x a k) (λ z. if_started_so c me (turn a k).steps z)

readied_so : (c : Cluster) (me : ℕ) (x : UpNode) (o : Option AttemptState) → GoesSo (cuts.readied_course c me x o)
readied_so c me x None = tt
readied_so c me x (Some a) = turned_all_so c me x a Own_ready

own_ready_so : (c : Cluster) (me : ℕ) (x : UpNode) → GoesSo (cuts.own_ready_course c me x)
own_ready_so c me x = either_so (joins x.tasks) _ _ tt (readied_so c me x x.attempt)

if_installed_so : (c : Cluster) (me : ℕ) (steps : List Step) (y : UpNode) → GoesSo (cuts.if_installed c me steps y)
if_installed_so c me steps y = either_so (begins_install steps) _ _ (own_ready_so c me y) tt

called_so : (c : Cluster) (me : ℕ) (x : UpNode) (a : AttemptState) (k : Call) → GoesSo (cuts.called c me x a k)
called_so c me x a k = then_so c me x _ _ (turned_all_so c me x a k) (λ z. if_installed_so c me (turn a k).steps z)

going_so : (c : Cluster) (me : ℕ) (x : UpNode) (a : AttemptState) (k : Call) → GoesSo (cuts.going_course c me x a k)
going_so c me x a k = either_so (is_choosing (turn a k).after.phase) _ _ (tt, called_so c me (going x a k) (turn a k).after (With_votes (votes_in c (turn a k).after))) (called_so c me x a k)

begun_so : (c : Cluster) (me : ℕ) (x : UpNode) (t : Turn) → GoesSo (cuts.begun_course c me x t)
begun_so c me x t = either_so (is_choosing t.after.phase) _ _ (called_so c me x t.after (With_votes (votes_in c t.after))) (steps_so c me x t.steps)

leading_so : (c : Cluster) (me : ℕ) (x : UpNode) (p members : ℕ) → GoesSo (cuts.leading_course c me x p members)
leading_so c me x p members = either_so (nat_lt (promised_of x) p) _ _ (tt, begun_so c me (changed c me x (Leads p members)) (first_turn c me x p members)) tt

forming_so : (c : Cluster) (me : ℕ) (x : UpNode) (o : Option ℕ) → GoesSo (cuts.forming_course c me x o)
forming_so c me x None = tt
forming_so c me x (Some members) = leading_so c me x (next_epoch me x) members

ticked_so : (c : Cluster) (me : ℕ) (x : UpNode) (o : Option AttemptState) → GoesSo (cuts.ticked_course c me x o)
ticked_so c me x (Some a) = going_so c me x a Call_tick
ticked_so c me x None = either_so (nat_le 1 x.beats.wait) _ _ (tt, tt) (tt, forming_so c me (waiting_less x) (members_to_form c me (waiting_less x)))

heartbeat_so : (me : ℕ) (x : UpNode) (from session : ℕ) (member : Bool) → GoesSo (cuts.heartbeat_course me x from session member)
heartbeat_so me x from session member = either_so (awaits_start me x from session member) _ _ (tt, tt) tt

collect_so : (x : UpNode) (from p : ℕ) → GoesSo (cuts.collect_course x from p)
collect_so x from p = either_so (nat_lt (promised_of x) p) _ _ (tt, (tt, tt)) (either_so (is_in x p) _ _ (tt, tt) (tt, tt))

request_so : (x : UpNode) (from : ℕ) (kind : SeizeKind) (e members d : ℕ) (o : Option SeizeResult) → GoesSo (cuts.request_course x from kind e members d o)
request_so x from kind e members d (Some result) = (tt, tt)
request_so x from kind e members d None = either_so (installed_of x == e) _ _ (tt, tt) (tt, tt)

seizing_so : (x : UpNode) (from : ℕ) (kind : SeizeKind) (e members d : ℕ) → GoesSo (cuts.seizing_course x from kind e members d)
seizing_so x from kind e members d = either_so (is_in x e) _ _ (request_so x from kind e members d (kept_of x.tasks d)) tt

readying_so : (c : Cluster) (x : UpNode) (to : ℕ) → GoesSo (cuts.readying_course c x to)
readying_so c x to = either_so (joins x.tasks) _ _ tt (tt, tt)

installed_so : (c : Cluster) (me : ℕ) (x : UpNode) (from : ℕ) (i : Install) (seat : Seat) → GoesSo (cuts.installed_course c me x from i seat)
installed_so c me x from i (Member s) = readying_so c x from
installed_so c me x from i (Forming s) = either_so (s.saved.installed == i.epoch) _ _ (readying_so c x from) (tt, readying_so c (changed c me x (Installs s i)) from)

install_so : (c : Cluster) (me : ℕ) (x : UpNode) (from : ℕ) (i : Install) → GoesSo (cuts.install_course c me x from i)
install_so c me x from i = either_so (is_in x i.epoch) _ _ (installed_so c me x from i x.seat) (tt, tt)

start_so : (e : ℕ) (seat : Seat) → GoesSo (cuts.start_course e seat)
start_so e (Member s) = tt
start_so e (Forming s) = either_so (starts_now s e) _ _ (kept_if_so (is_some s.saved.entries.pending) (Sits s e) Stops tt tt) tt

notice_so : (x : UpNode) (e newest : ℕ) → GoesSo (cuts.notice_course x e newest)
notice_so x e newest = either_so (is_in x e) _ _ tt tt

answering_so : (c : Cluster) (me : ℕ) (x : UpNode) (p : Presidency) (a : Arrived) (told : Answer) → GoesSo (cuts.answering_course c me x p a told)
answering_so c me x p a told = (given_minor me x a told, (tt, deciding_so c me (left_answered me x p a told)))

acknowledged_so : (c : Cluster) (me : ℕ) (x : UpNode) (p : Presidency) (a : Arrived) (text : List ℕ) → (record_of x).entries.pending ≡ Some text → GoesSo (cuts.acknowledged_course c me x p a text)
acknowledged_so c me x p a text is = (is, (tt, (given_minor me x a answer.Ok, deciding_so c me (changed c me x (acks_of c me x p a text)))))

acknowledging_text_so : (c : Cluster) (me : ℕ) (x : UpNode) (p : Presidency) (o : Option Arrived) (text : Option (List ℕ)) → (record_of x).entries.pending ≡ text → GoesSo (cuts.acknowledging_text_course c me x p o text)
acknowledging_text_so c me x p (Some a) (Some text) is = acknowledged_so c me x p a text is
acknowledging_text_so c me x p None text is = tt
acknowledging_text_so c me x p (Some a) None is = tt

acknowledging_by_so : (c : Cluster) (me : ℕ) (x : UpNode) (o : Option Presidency) → GoesSo (cuts.acknowledging_by_course c me x o)
acknowledging_by_so c me x None = tt
acknowledging_by_so c me x (Some p) = acknowledging_text_so c me x p (first_in p.proposals.arrived) (record_of x).entries.pending refl

acknowledging_so : (c : Cluster) (me : ℕ) (x : UpNode) → GoesSo (cuts.acknowledging_course c me x)
acknowledging_so c me x = acknowledging_by_so c me x x.presidency

proposing_so : (c : Cluster) (me : ℕ) (x : UpNode) (p : Presidency) (text : List ℕ) → GoesSo (cuts.proposing_course c me x p text)
proposing_so c me x p text = (tt, (tt, either_so (others_of me x == 0) _ _ (acknowledging_so c me (proposed_by c me x p text)) tt))

acting_so : (c : Cluster) (me : ℕ) (x : UpNode) (p : Presidency) (a : Arrived) (ask : Ask) → GoesSo (cuts.acting_course c me x p a ask)
acting_so c me x p a ask = either_so (may_order p.groups) _ _ (orders_minor me (orders_for p.groups ask), answering_so c me x (with_act c me x p a ask) a answer.Ok) tt

taken_as_so : (c : Cluster) (me : ℕ) (x : UpNode) (p : Presidency) (a : Arrived) (r : Result Accepted CheckError) → GoesSo (cuts.taken_as_course c me x p a r)
taken_as_so c me x p a (Ok (accepted.Change u)) = proposing_so c me x p (words_of u)
taken_as_so c me x p a (Ok (accepted.Act ask)) = acting_so c me x p a ask
taken_as_so c me x p a (Ok (accepted.Query q)) = answering_so c me x p a answer.Ok
taken_as_so c me x p a (Err (because.Refused r)) = answering_so c me x p a (answer.Refused r)
taken_as_so c me x p a (Err because.NoMemory) = tt

taken_so : (c : Cluster) (me : ℕ) (x : UpNode) (p : Presidency) (a : Arrived) (r : Result wanted.Request WordError) → GoesSo (cuts.taken_course c me x p a r)
taken_so c me x p a (Ok (asked.Change u)) = either_so (is_busy p.groups) _ _ tt (taken_as_so c me x p a (checked c x p (wish.Change u)))
taken_so c me x p a (Ok (asked.Act ask)) = either_so (is_busy p.groups && is_clear ask) _ _ tt (taken_as_so c me x p a (checked c x p (wish.Act ask)))
taken_so c me x p a (Err e) = answering_so c me x p a (word_answer e)

turn_of_so : (c : Cluster) (me : ℕ) (x : UpNode) (p : Presidency) (o : Option Proposed) (first : Option Arrived) → GoesSo (cuts.turn_of_course c me x p o first)
turn_of_so c me x p None (Some a) = taken_so c me x p a (request_of (version_of c) a.text)
turn_of_so c me x p None None = tt
turn_of_so c me x p (Some proposed) first = tt

turn_by_so : (c : Cluster) (me : ℕ) (x : UpNode) (o : Option Presidency) → GoesSo (cuts.turn_by_course c me x o)
turn_by_so c me x None = tt
turn_by_so c me x (Some p) = turn_of_so c me x p p.proposals.proposed (first_in p.proposals.arrived)

one_turn_so : (c : Cluster) (me : ℕ) (x : UpNode) → GoesSo (cuts.one_turn_course c me x)
one_turn_so c me x = turn_by_so c me x x.presidency

turns_so : (c : Cluster) (me : ℕ) (x : UpNode) (k : ℕ) → GoesSo (cuts.turns_course c me x k)
turns_so c me x zero = tt
turns_so c me x (suc k) = then_so c me x _ _ (turns_so c me x k) (λ z. one_turn_so c me z)

handling_so : (c : Cluster) (me : ℕ) (x : UpNode) → GoesSo (cuts.handling_course c me x)
handling_so c me x = turns_so c me x (requests_of x x.presidency)

kept_again_so : (x : UpNode) (from : ℕ) (o : Option Kept) → GoesSo (cuts.kept_again_course x from o)
kept_again_so x from None = tt
kept_again_so x from (Some k) = (tt, tt)

arrived_so : (c : Cluster) (me : ℕ) (x : UpNode) (p : Presidency) (a : Arrived) (how : Arrival) → GoesSo (cuts.arrived_course c me x p a how)
arrived_so c me x p a New = let s : State = with_arrival p.proposals a New in (tt, handling_so c me (with_proposals x p s))
arrived_so c me x p a Waits_already = tt
arrived_so c me x p a Answered_last = kept_again_so x a.from (kept_at p.proposals.answers a.from)
arrived_so c me x p a Past = tt

arriving_so : (c : Cluster) (me : ℕ) (x : UpNode) (p : Presidency) (a : Arrived) → GoesSo (cuts.arriving_course c me x p a)
arriving_so c me x p a = arrived_so c me x p a (arrival_of p.proposals a.from a.number)

requested_so : (c : Cluster) (me : ℕ) (x : UpNode) (from number : ℕ) (text : List ℕ) (o : Option Presidency) → GoesSo (cuts.requested_course c me x from number text o)
requested_so c me x from number text None = tt
requested_so c me x from number text (Some p) = arriving_so c me x p (record { from = from; number = number; text = text })

asked_so : (c : Cluster) (me : ℕ) (x : UpNode) (from e number : ℕ) (text : List ℕ) → GoesSo (cuts.asked_course c me x from e number text)
asked_so c me x from e number text = either_so (is_of_member x from e) _ _ (requested_so c me x from number text x.presidency) tt

request_to_so : (x : UpNode) (r : Request) (o : Option ℕ) → GoesSo (cuts.request_to_course x r o)
request_to_so x r None = tt
request_to_so x r (Some president) = (tt, tt)

asking_of_so : (c : Cluster) (me : ℕ) (x : UpNode) (r : Request) (o : Option Presidency) → GoesSo (cuts.asking_of_course c me x r o)
asking_of_so c me x r None = request_to_so x r (coordinator_of x)
asking_of_so c me x r (Some p) = arriving_so c me x p (own_arrival me r)

asking_for_so : (c : Cluster) (me : ℕ) (x : UpNode) (o : Option Request) → GoesSo (cuts.asking_for_course c me x o)
asking_for_so c me x None = tt
asking_for_so c me x (Some r) = asking_of_so c me x r x.presidency

asking_so : (c : Cluster) (me : ℕ) (x : UpNode) → GoesSo (cuts.asking_course c me x)
asking_so c me x = asking_for_so c me x (oldest x.requests)

replying_so : (me number : ℕ) (told : Answer) → GoesSo (cuts.replying_course me number told)
replying_so me number told = ((tt, tt), tt)

asking_if_so : (alone : Bool) (c : Cluster) (me : ℕ) (x : UpNode) → GoesSo (cuts.asking_if_course alone c me x)
asking_if_so alone c me x = either_so alone _ _ (asking_so c me x) tt

waiting_so : (c : Cluster) (me : ℕ) (x : UpNode) (number : ℕ) (text : List ℕ) → GoesSo (cuts.waiting_course c me x number text)
waiting_so c me x number text = either_so (is_full x.requests) _ _ (replying_so me number answer.QueueFull) (tt, asking_if_so (is_idle x.requests.waiting) c me (waiting_with x number text))

elsewhere_so : (me number : ℕ) (o : Option ℕ) → GoesSo (cuts.elsewhere_course me number o)
elsewhere_so me number None = tt
elsewhere_so me number (Some president) = replying_so me number (answer.Ask president)

telling_so : (me number : ℕ) (lines : List StatusEntry) → GoesSo (cuts.telling_course me number lines)
telling_so me number lines = ((told_minor lines), replying_so me number answer.Ok)

query_so : (me : ℕ) (x : UpNode) (p : Presidency) (number : ℕ) (s : ConfigState) (r : Result Accepted CheckError) → GoesSo (cuts.query_course me x p number s r)
query_so me x p number s (Ok (accepted.Query q)) = telling_so me number (query_lines x p s q)
query_so me x p number s (Ok (accepted.Change u)) = tt
query_so me x p number s (Ok (accepted.Act ask)) = tt
query_so me x p number s (Err (because.Refused r)) = replying_so me number (answer.Refused r)
query_so me x p number s (Err because.NoMemory) = tt

queried_so : (c : Cluster) (me : ℕ) (x : UpNode) (number : ℕ) (question : AdminCommand) (o : Option Presidency) → GoesSo (cuts.queried_course c me x number question o)
queried_so c me x number question None = elsewhere_so me number (coordinator_of x)
queried_so c me x number question (Some p) = either_so (is_full x.requests) _ _ (replying_so me number answer.QueueFull) (query_so me x p number (in_force c x) (checked c x p question))

commanded_so : (c : Cluster) (me : ℕ) (x : UpNode) (number : ℕ) (o : AdminCommand) → GoesSo (cuts.commanded_course c me x number o)
commanded_so c me x number (wish.Change u) = waiting_so c me x number (words_of u)
commanded_so c me x number (wish.Act a) = waiting_so c me x number (ask_words_of a)
commanded_so c me x number (wish.Status q) = queried_so c me x number (wish.Status q) x.presidency
commanded_so c me x number (wish.Rows table) = queried_so c me x number (wish.Rows table) x.presidency

worded_so : (c : Cluster) (me : ℕ) (x : UpNode) (number : ℕ) (r : Result AdminCommand WordError) → GoesSo (cuts.worded_course c me x number r)
worded_so c me x number (Err e) = replying_so me number (word_answer e)
worded_so c me x number (Ok command) = either_so (is_member x.seat) _ _ (commanded_so c me x number command) (replying_so me number answer.NotMember)

command_so : (c : Cluster) (me : ℕ) (x : UpNode) (words : List ℕ) → GoesSo (cuts.command_course c me x words)
command_so c me x words = ((tt, tt), (tt, worded_so c me (numbered x) (next_number x.requests) (command_of (version_of c) words)))

replied_to_so : (c : Cluster) (me : ℕ) (x : UpNode) (number : ℕ) (told : Answer) (o : Option Request) → GoesSo (cuts.replied_to_course c me x number told o)
replied_to_so c me x number told None = tt
replied_to_so c me x number told (Some r) = ((own_minor me told (Some r)), (tt, asking_so c me (record x { requests = queue.answered x.requests number })))

replied_so : (c : Cluster) (me : ℕ) (x : UpNode) (number : ℕ) (o : Option Answer) → GoesSo (cuts.replied_course c me x number o)
replied_so c me x number None = tt
replied_so c me x number (Some told) = replied_to_so c me x number told (found x.requests.waiting number)

reply_so : (c : Cluster) (me : ℕ) (x : UpNode) (e number : ℕ) (told : Option Answer) → GoesSo (cuts.reply_course c me x e number told)
reply_so c me x e number told = either_so (is_member x.seat && is_in x e) _ _ (replied_so c me x number told) tt

preparing_so : (from e place : ℕ) (s : NodeState) (text : List ℕ) (o : Prepared) → GoesSo (cuts.preparing_course from e place s text o)
preparing_so from e place s text Taken = (tt, (tt, tt))
preparing_so from e place s text Already = (tt, tt)
preparing_so from e place s text (Gap k) = tt

prepare_so : (x : UpNode) (from e place : ℕ) (text : List ℕ) (seat : Seat) → GoesSo (cuts.prepare_course x from e place text seat)
prepare_so x from e place text (Forming s) = tt
prepare_so x from e place text (Member s) = either_so (is_in x e) _ _ (preparing_so from e place s text (answer_for (length (texts_of s.saved.entries)) place)) tt

prepared_all_so : (c : Cluster) (me : ℕ) (x : UpNode) (p : Presidency) → GoesSo (cuts.prepared_all_course c me x p)
prepared_all_so c me x p = either_so (is_prepared p.proposals) _ _ (then_so c me x _ _ (acknowledging_so c me x) (λ z. handling_so c me z)) tt

prepared_at_so : (c : Cluster) (me : ℕ) (x : UpNode) (from place : ℕ) (o : Option Presidency) → GoesSo (cuts.prepared_at_course c me x from place o)
prepared_at_so c me x from place None = tt
prepared_at_so c me x from place (Some p) = let s : State = prepared_by p.proposals from place in (tt, prepared_all_so c me (with_proposals x p s) (record p { proposals = s }))

prepared_so : (c : Cluster) (me : ℕ) (x : UpNode) (from e place : ℕ) → GoesSo (cuts.prepared_course c me x from e place)
prepared_so c me x from e place = either_so (is_of_member x from e) _ _ (prepared_at_so c me x from place x.presidency) tt

commit_so : (x : UpNode) (e place : ℕ) (seat : Seat) → GoesSo (cuts.commit_course x e place seat)
commit_so x e place (Forming s) = tt
commit_so x e place (Member s) = either_so (is_in x e && commits_now s place) _ _ (tt, tt) tt

done_at_so : (c : Cluster) (me : ℕ) (x : UpNode) (from number : ℕ) (outcome : Outcome) (o : Option Presidency) → GoesSo (cuts.done_at_course c me x from number outcome o)
done_at_so c me x from number outcome None = tt
done_at_so c me x from number outcome (Some p) = either_so (order.is_due p.groups.view from number) _ _ (tt, then_so c me (record x { presidency = Some (with_ended c x p from number outcome) }) _ _ (deciding_so c me (record x { presidency = Some (with_ended c x p from number outcome) })) (λ z. handling_so c me z)) tt

done_so : (c : Cluster) (me : ℕ) (x : UpNode) (from e number : ℕ) (outcome : Outcome) → GoesSo (cuts.done_course c me x from e number outcome)
done_so c me x from e number outcome = either_so (is_of_member x from e) _ _ (done_at_so c me x from number outcome x.presidency) tt

carrying_so : (c : Cluster) (me : ℕ) (x : UpNode) (o : Order) (how : Carried) → GoesSo (cuts.carrying_course c me x o how)
carrying_so c me x o how = (order_minor me o how, either_so (is_last c x o how) _ _ tt (tt, tt))

order_answered_so : (from : ℕ) (o : Order) (how : Carried) (x : UpNode) → GoesSo (cuts.order_answered_course from o how x)
order_answered_so from o carried.Old x = tt
order_answered_so from o (carried.Called outcome) x = (tt, tt)
order_answered_so from o carried.Cleared x = (tt, tt)
order_answered_so from o (carried.Kept outcome) x = (tt, tt)

obeying_so : (c : Cluster) (me : ℕ) (x : UpNode) (from : ℕ) (o : Order) (how : Carried) → GoesSo (cuts.obeying_course c me x from o how)
obeying_so c me x from o how = then_so c me x (cuts.carrying_course c me x o how) _ (carrying_so c me x o how) (λ z. order_answered_so from o how z)

order_so : (c : Cluster) (me : ℕ) (outcome : Outcome) (x : UpNode) (from : ℕ) (o : Order) → GoesSo (cuts.order_course c me outcome x from o)
order_so c me outcome x from o = either_so (is_member x.seat && is_in x o.epoch) _ _ (obeying_so c me x from o (answer_to x.worker o outcome)) tt

own_done_so : (c : Cluster) (me : ℕ) (o : Order) (how : Carried) (x : UpNode) → GoesSo (cuts.own_done_course c me o how x)
own_done_so c me o how x = done_at_so c me x me o.number (outcome_in how) x.presidency

own_turn_so : (c : Cluster) (me : ℕ) (outcome : Outcome) (x : UpNode) (o : Option Order) → GoesSo (cuts.own_turn_course c me outcome x o)
own_turn_so c me outcome x None = tt
own_turn_so c me outcome x (Some o) = then_so c me x (cuts.carrying_course c me x o (answer_to x.worker o outcome)) _ (carrying_so c me x o (answer_to x.worker o outcome)) (λ z. own_done_so c me o (answer_to x.worker o outcome) z)

prepares_so : (x : UpNode) (o : Option Proposed) (text : Option (List ℕ)) (rest : Course) → GoesSo rest → GoesSo (cuts.prepares_course x o text rest)
prepares_so x (Some p) (Some text) rest h = (tt, h)
prepares_so x None text rest h = h
prepares_so x (Some p) None rest h = h

prepares_again_so : (x : UpNode) (o : Option Presidency) (rest : Course) → GoesSo rest → GoesSo (cuts.prepares_again_course x o rest)
prepares_again_so x None rest h = h
prepares_again_so x (Some p) rest h = either_so (goes_again p.proposals) _ _ (prepares_so x p.proposals.proposed (record_of x).entries.pending rest h) h

going_again_so : (c : Cluster) (me : ℕ) (before x : UpNode) → GoesSo (cuts.going_again_course c me before x)
going_again_so c me before x = prepares_again_so before before.presidency (Acts (Gives (orders_again before x)) (cuts.deciding_course c me x)) (again_minor before x, deciding_so c me x)

governing_so : (c : Cluster) (me : ℕ) (outcome : Outcome) (before x : UpNode) → GoesSo (cuts.governing_course c me outcome before x)
governing_so c me outcome before x = then_so c me x _ _ (own_turn_so c me outcome x (own_order me x)) (λ z. going_again_so c me before z)

tick_so : (c : Cluster) (me : ℕ) (outcome : Outcome) (x : UpNode) → GoesSo (cuts.tick_course c me outcome x)
tick_so c me outcome x = (tt, then_so c me (later c x) _ _ (governing_so c me outcome x (later c x)) (λ y. ticked_so c me y y.attempt))

asking_this_so : (c : Cluster) (me : ℕ) (x : UpNode) (o : Option Ask) → GoesSo (cuts.asking_this_course c me x o)
asking_this_so c me x None = tt
asking_this_so c me x (Some ask) = either_so (is_member x.seat && not (is_full x.requests)) _ _ (tt, asking_if_so (is_idle x.requests.waiting) c me (monitor_asked x ask)) tt

reporting_so : (c : Cluster) (me : ℕ) (x : UpNode) (r : List ℕ) (how : Probed) → GoesSo (cuts.reporting_course c me x r how)
reporting_so c me x r probe.NoMonitor = tt
reporting_so c me x r probe.Good = ((tt, tt), (tt, tt))
reporting_so c me x r (probe.Failed a) = ((tt, tt), (tt, asking_this_so c me (reported x c r (probe.Failed a)) (asked_by a r)))

report_so : (c : Cluster) (me : ℕ) (x : UpNode) (r : List ℕ) (good : Bool) → GoesSo (cuts.report_course c me x r good)
report_so c me x r good = reporting_so c me x r (probed x.worker (own_config c x) r good x.second)

serving_so : (x : UpNode) (p : Presidency) (name : List ℕ) (client port : ℕ) (o : serving.Outcome) → GoesSo (cuts.serving_course x p name client port o)
serving_so x p name client port o = (served_minor name client port o, (tt, tt))

serving_at_so : (s : ConfigState) (x : UpNode) (p : Presidency) (name : List ℕ) (client port : ℕ) (o : Option Address) → GoesSo (cuts.serving_at_course s x p name client port o)
serving_at_so s x p name client port None = tt
serving_at_so s x p name client port (Some a) = serving_so x p name client port (serving.chosen (clients.state_of p.balancer name) (request_for s p a client port))

serving_by_so : (c : Cluster) (x : UpNode) (name : List ℕ) (client port : ℕ) (o : Option Presidency) → GoesSo (cuts.serving_by_course c x name client port o)
serving_by_so c x name client port None = tt
serving_by_so c x name client port (Some p) = serving_at_so (in_force c x) x p name client port (named (in_force c x).addresses name)

client_so : (c : Cluster) (x : UpNode) (name : List ℕ) (client port : ℕ) → GoesSo (cuts.client_course c x name client port)
client_so c x name client port = serving_by_so c x name client port x.presidency

answer_so : (c : Cluster) (me : ℕ) (x : UpNode) (from : ℕ) (m : Message) (o : Option AttemptState) → GoesSo (cuts.answer_course c me x from m o)
answer_so c me x from m None = tt
answer_so c me x from m (Some a) = going_so c me x a (Take from m)

body_so : (c : Cluster) (me : ℕ) (outcome : Outcome) (x : UpNode) (from : ℕ) (m : Message) (b : Body) → GoesSo (cuts.body_course c me outcome x from m b)
body_so c me outcome x from m (body.Heartbeat promised session member) = heartbeat_so me x from session member
body_so c me outcome x from m (body.Collect e members) = collect_so x from e
body_so c me outcome x from m (body.Promise e installed members valid flagged committed pending) = answer_so c me x from m x.attempt
body_so c me outcome x from m (body.Nack e promised) = answer_so c me x from m x.attempt
body_so c me outcome x from m (body.SeizeQuorum e members d) = seizing_so x from Vote e members d
body_so c me outcome x from m (body.SeizeData e members d) = seizing_so x from Plain e members d
body_so c me outcome x from m (body.Seized e d ended) = answer_so c me x from m x.attempt
body_so c me outcome x from m (body.Install i) = install_so c me x from i
body_so c me outcome x from m (body.Ready e joined_devices report) = answer_so c me x from m x.attempt
body_so c me outcome x from m (body.Start e) = start_so e x.seat
body_so c me outcome x from m (body.Excluded e newest) = notice_so x e newest
body_so c me outcome x from m (body.Prepare e place text) = prepare_so x from e place text x.seat
body_so c me outcome x from m (body.Prepared e place) = prepared_so c me x from e place
body_so c me outcome x from m (body.Commit e place) = commit_so x e place x.seat
body_so c me outcome x from m (body.Request e number text) = asked_so c me x from e number text
body_so c me outcome x from m (body.Answer e number text) = reply_so c me x e number (answer_in text)
body_so c me outcome x from m (body.Order o) = order_so c me outcome x from o
body_so c me outcome x from m (body.Done e number ended) = done_so c me x from e number ended

packet_so : (c : Cluster) (me : ℕ) (outcome : Outcome) (x : UpNode) (from : ℕ) (m : Message) → GoesSo (cuts.packet_course c me outcome x from m)
packet_so c me outcome x from m = either_so (is_foreign c me x m.body) _ _ tt (tt, body_so c me outcome (hearing x from m.body) from m m.body)

distrusting_so : (x : UpNode) (o : Option ℕ) → GoesSo (cuts.distrusting_course x o)
distrusting_so x None = tt
distrusting_so x (Some d) = either_so (has (record_of x).valid d) _ _ (tt, tt) tt

own_seized_so : (c : Cluster) (me : ℕ) (x : UpNode) (d : ℕ) (result : SeizeResult) (o : Option AttemptState) → GoesSo (cuts.own_seized_course c me x d result o)
own_seized_so c me x d result None = tt
own_seized_so c me x d result (Some a) = going_so c me x a (Own_seized d result)

seized_so : (c : Cluster) (me : ℕ) (x : UpNode) (d : ℕ) (result : SeizeResult) (o : Option ℕ) → GoesSo (cuts.seized_course c me x d result o)
seized_so c me x d result None = tt
seized_so c me x d result (Some coordinator) = either_so (coordinator == me) _ _ (own_seized_so c me x d result x.attempt) (tt, tt)

joined_so : (c : Cluster) (me : ℕ) (x : UpNode) (o : Option ℕ) → GoesSo (cuts.joined_course c me x o)
joined_so c me x None = tt
joined_so c me x (Some coordinator) = either_so (coordinator == me) _ _ (own_ready_so c me x) (readying_so c x coordinator)

joins_device_so : (c : Cluster) (me : ℕ) (x : UpNode) (at : ℕ) (command : PrCommand) (a : DeviceAnswer) (d : ℕ) (r : JoinResult) → GoesSo (cuts.joining_course c me x at command a d r)
joins_device_so c me x at command a d join.Joined = (tt, joined_so c me (joining_so (answered_so x a) d) (coordinator_of (joining_so (answered_so x a) d)))
joins_device_so c me x at command a d (join.Late w) = (tt, joined_so c me (answered_so x a) (coordinator_of (answered_so x a)))
joins_device_so c me x at command a d join.Fault = (tt, joined_so c me (answered_so x a) (coordinator_of (answered_so x a)))

progress_so : (c : Cluster) (me : ℕ) (x : UpNode) (at : ℕ) (command : PrCommand) (a : DeviceAnswer) (p : Progress) → GoesSo (cuts.progress_course c me x at command a p)
progress_so c me x at command a GoesOn = (tt, tt)
progress_so c me x at command a (Seized d result) = (tt, seized_so c me (answered_so x a) d result (coordinator_of (answered_so x a)))
progress_so c me x at command a (Joined d result) = joins_device_so c me x at command a d result

answer_taken_so : (c : Cluster) (me : ℕ) (x : UpNode) (a : DeviceAnswer) (o : Option ℕ) (command : Option PrCommand) → GoesSo (cuts.answered_course c me x a o command)
answer_taken_so c me x a (Some d) (Some command) = progress_so c me x d command a (progress_after x.tasks a)
answer_taken_so c me x a None command = tt
answer_taken_so c me x a (Some d) None = tt

fenced_so : (d : ℕ) (a : DeviceAnswer) → GoesSo (cuts.fenced_course d a)
fenced_so d (Ok given.Good) = tt
fenced_so d (Ok given.Conflict) = tt
fenced_so d (Ok given.InvalidRelease) = tt
fenced_so d (Ok given.NoPath) = tt
fenced_so d (Ok (given.Keys keys)) = tt
fenced_so d (Ok (given.Holder holder)) = tt
fenced_so d (Ok (given.Word w)) = tt
fenced_so d (Ok (given.Value v)) = tt
fenced_so d (Ok (given.Miscompare w)) = tt
fenced_so d (Err e) = tt

course_of_so : (c : Cluster) (me : ℕ) (outcome : Outcome) (x : UpNode) (i : Input) → GoesSo (cuts.course_of c me outcome x i)
course_of_so c me outcome x Boot = tt
course_of_so c me outcome x Crash = tt
course_of_so c me outcome x Tick = tick_so c me outcome x
course_of_so c me outcome x (Packet from message) = packet_so c me outcome x from message
course_of_so c me outcome x CommandDue = distrusting_so x (begins_plainly x.tasks)
course_of_so c me outcome x (Answered a) = answer_taken_so c me x a (due_device x.tasks) (next_of x.tasks)
course_of_so c me outcome x (Wrote d value a) = (tt, fenced_so d a)
course_of_so c me outcome x (Commanded words) = command_so c me x words
course_of_so c me outcome x (Reported r good) = report_so c me x r good
course_of_so c me outcome x (Client name client port) = client_so c x name client port

course_at_so : (c : Cluster) (me now : ℕ) (outcome : Outcome) (x : UpNode) (i : Input) → GoesSo (cuts.course_at c me now outcome x i)
course_at_so c me now outcome x i = (tt, course_of_so c me outcome (at_second now x) i)

-- Under all replies of the disk.

under_so : (replies : List Reply) (k : Course) → GoesSo k → AllSo (under replies k)
under_so replies Stops h = tt
under_so replies (Acts a rest) h = (h.0, under_so replies rest h.1)
under_so [] (Keeps change rest) h = (h.0, tt)
under_so (Done ∷ replies) (Keeps change rest) h = (h.0, under_so replies rest h.1)
under_so (Lost_new why ∷ replies) (Keeps change rest) h = (h.0, tt)
under_so (Lost_old why ∷ replies) (Keeps change rest) h = (h.0, tt)
under_so replies (Falls why) h = (tt, tt)

boot_so : (replies : List Reply) → AllSo (cuts.boot_doings replies)
boot_so [] = (tt, (tt, tt))
boot_so (Done ∷ replies) = (tt, tt)
boot_so (Lost_new why ∷ replies) = (tt, (tt, tt))
boot_so (Lost_old why ∷ replies) = (tt, (tt, tt))

pub doings_so : (c : Cluster) (me now : ℕ) (ends : Outcome) (replies : List Reply) (i : Input) (node : Node) → AllSo (cuts.doings c me now ends replies i node)
doings_so c me now ends replies i (Up x) = under_so replies (cuts.course_at c me now ends x i) (course_at_so c me now ends x i)
doings_so c me now ends replies Boot Down = boot_so replies
doings_so c me now ends replies Crash Down = tt
doings_so c me now ends replies Tick Down = tt
doings_so c me now ends replies (Packet from m) Down = tt
doings_so c me now ends replies CommandDue Down = tt
doings_so c me now ends replies (Answered a) Down = tt
doings_so c me now ends replies (Wrote d value a) Down = tt
doings_so c me now ends replies (Commanded words) Down = tt
doings_so c me now ends replies (Reported r good) Down = tt
doings_so c me now ends replies (Client name client port) Down = tt
