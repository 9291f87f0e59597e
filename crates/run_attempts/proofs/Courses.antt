-- What a node does with each input hears nothing but the packet that is delivered, and begins no attempt; but for its ticks.
use Rattle.std.specs.Prelude.{ℕ, ◌==◌, ◌&&◌, nat_lt, not, Bool, true, List, [], ◌∷◌, length, Option, None, Some, Result, Ok, Err, is_some, if◌then◌else◌}
use Rattle.std.specs.Option.{unwrap_or}
use Rattle.admin_commands.specs.declared.accepted.Accepted.{Accepted}
use Rattle.admin_commands.specs.declared.accepted.Accepted.TheVariants as accepted
use Rattle.admin_commands.specs.declared.error.CheckError.{CheckError}
use Rattle.admin_commands.specs.declared.error.CheckError.TheVariants as because
use Rattle.admin_words.specs.Commands.{command_of}
use Rattle.admin_words.specs.declared.error.WordError.{WordError}
use Rattle.answer_words.specs.Answers.{answer_in}
use Rattle.ccr_commit.specs.Entries.{answer_for, texts_of}
use Rattle.ccr_commit.specs.declared.entries.Prepared.{Prepared}
use Rattle.ccr_commit.specs.declared.entries.Prepared.TheVariants.{Taken, Already, Gap}
use Rattle.ccr_tables.specs.State.{ConfigState}
use Rattle.ccr_tables.specs.declared.command.AdminCommand.{AdminCommand}
use Rattle.ccr_tables.specs.declared.command.AdminCommand.TheVariants as wish
use Rattle.cl_base.specs.Sets.{has}
use Rattle.cl_base.specs.declared.command.Ask.{Ask}
use Rattle.cl_base.specs.declared.method.Outcome.{Outcome}
use Rattle.cl_base.specs.Seizings.{SeizeResult}
use Rattle.cmm_attempt.specs.declared.step.AttemptEnd.{AttemptEnd}
use Rattle.cmm_attempt.specs.declared.step.Step.{Step}
use Rattle.cmm_attempt.specs.declared.step.Step.TheVariants as step
use Rattle.cmm_attempt.specs.Attempts.{AttemptState, Turn, newest_installed}
use Rattle.cmm_attempt.specs.Calls.{Call, Own_ready, Own_seized, Take, With_votes, starts_in, turn}
use Rattle.cmm_member.specs.Nodes.{NodeState}
use Rattle.device_queue.specs.declared.progress.Progress.{Progress}
use Rattle.device_queue.specs.declared.progress.Progress.TheVariants.{GoesOn, Seized, Joined}
use Rattle.device_queue.specs.Queue.{joins, kept_of, progress_after}
use Rattle.pgr_device.specs.declared.command.PrAnswer.TheVariants as given
use Rattle.pgr_device.specs.declared.command.PrCommand.{PrCommand}
use Rattle.proposals.specs.Arrivals.{arrival_of, with_arrival}
use Rattle.proposals.specs.Proposing.{is_prepared, prepared_by}
use Rattle.proposals.specs.State.{State, kept_at}
use Rattle.proposals.specs.declared.arrived.Arrival.{Arrival}
use Rattle.proposals.specs.declared.arrived.Arrival.TheVariants.{New, Waits as Waits_already, Answered as Answered_last, Past}
use Rattle.proposals.specs.declared.arrived.Arrived.{Arrived}
use Rattle.proposals.specs.declared.arrived.Kept.{Kept}
use Rattle.request_queue.specs.Queue as queue
use Rattle.request_queue.specs.Queue.{Queue, found, is_full, next_number, oldest, with_number, with_request}
use Rattle.request_queue.specs.declared.request.Request.{Request}
use Rattle.rgm_member.specs.Orders.{answer_to}
use Rattle.rgm_member.specs.Probes.{probed}
use Rattle.rgm_member.specs.declared.carried.Carried.{Carried}
use Rattle.rgm_member.specs.declared.carried.Carried.TheVariants as carried
use Rattle.rgm_member.specs.declared.probed.Probed.{Probed}
use Rattle.rgm_member.specs.declared.probed.Probed.TheVariants as probe
use Rattle.seize.specs.Answers.{Answer as DeviceAnswer}
use Rattle.seize.specs.declared.kind.JoinResult.{JoinResult}
use Rattle.seize.specs.declared.kind.JoinResult.TheVariants as join
use Rattle.seize.specs.declared.kind.SeizeKind.{SeizeKind}
use Rattle.seize.specs.declared.kind.SeizeKind.TheVariants.{Vote, Plain}
use Rattle.status_report.specs.declared.command_entry.Answer.{Answer}
use Rattle.status_report.specs.declared.command_entry.Answer.TheVariants as answer
use Rattle.status_report.specs.declared.status_entry.StatusEntry.{StatusEntry}
use Rattle.update_words.specs.Words.{ask_words_of, words_of}
use Rattle.wire.specs.declared.message.Body.{Body}
use Rattle.wire.specs.declared.message.Body.TheVariants as body
use Rattle.wire.specs.declared.message.Install.{Install}
use Rattle.wire.specs.declared.message.Message.{Message}
use Rattle.wire.specs.declared.message.Order.{Order}
use Rattle.node_model.specs.Addresses.{request_for}
use Rattle.ccr_tables.specs.declared.address.Address.{Address}
use Rattle.rg_props.specs.Lookups.{named}
use Rattle.shared_address.specs.Choosing as serving
use Rattle.shared_address.specs.History.{with_state}
use Rattle.shared_address.specs.History as clients
use Rattle.node_model.specs.declared.cluster.Cluster.{Cluster}
use Rattle.node_model.specs.declared.node.UpNode.{UpNode}
use Rattle.node_model.specs.declared.presidency.Presidency.{Presidency}
use Rattle.node_model.specs.declared.seat.Seat.{Seat}
use Rattle.node_model.specs.declared.seat.Seat.TheVariants.{Forming, Member}
use Rattle.node_model.specs.Attempts.{begins_install, installs_now, is_choosing, left_out_by, starts_now, votes_in}
use Rattle.node_model.specs.Configurations.{in_force, own_config}
use Rattle.node_model.specs.Devices.{joining_so}
use Rattle.node_model.specs.Groups.{asked_by, monitor_asked, reported}
use Rattle.node_model.specs.Members.{awaits_start}
use Rattle.node_model.specs.Presidents.{checked, own_arrival, query_lines, with_proposals, word_answer}
use Rattle.node_model.specs.Requests.{is_idle, numbered, waiting_with}
use Rattle.node_model.specs.Seats.{coordinator_of, installed_of, is_in, is_member, promised_of, record_of, version_of}
use Rattle.node_model.specs.Updates.{commits_now, is_of_member}
use Rattle.refinement.specs.Doings.{Act, Change, acted, answered_so, changed, going}
use Rattle.refinement.specs.Doings.Change.{Counts, Installs, Leads, Sits, Starts}
use Rattle.refinement.specs.Courses.{Course, joined}
use Rattle.refinement.specs.Courses.Course.{Acts, Falls, Keeps, Stops}
use Rattle.std.specs.Prelude.{false}
use Rattle.refinement.specs.Cuts as cuts
use Rattle.refinement.specs.Cuts.{acks_of, balanced, first_turn, left_answered}
use Rattle.run_attempts.specs.Steps.{CalmAct, CalmChange, IsCalm, IsStaid, StaidAct, StaidChange}
use Rattle.run_attempts.proofs.Staid.{acknowledging_staid, carrying_staid, deciding_staid, done_at_staid, handling_staid}
use Rattle.refinement.specs.Doings.Act.{Hears, Makes, Ticks}

either_calm : (b : Bool) (k l : Course) → IsCalm k → IsCalm l → IsCalm (if b then k else l)
either_calm true k l h i = h
either_calm false k l h i = i

then_calm : (c : Cluster) (me : ℕ) (x : UpNode) (k : Course) (next : UpNode → Course) → IsCalm k → ((y : UpNode) → IsCalm (next y)) → IsCalm (joined c me x k next)
then_calm c me x Stops next h i = i x
then_calm c me x (Acts a rest) next h i = (h.0, then_calm c me (acted c me x a) rest next h.1 i)
then_calm c me x (Keeps change rest) next h i = (h.0, then_calm c me (changed c me x change) rest next h.1 i)
then_calm c me x (Falls why) next h i = tt

-- what changes nothing of a membership
staid_change : (change : Change) → StaidChange change → CalmChange change
staid_change (Leads p members) h = h
staid_change _ h = tt

staid_act : (a : Act) → StaidAct a → CalmAct a
staid_act Ticks h = h
staid_act (Hears from b) h = h
staid_act (Makes change) h = staid_change change h
staid_act _ h = tt

staid_calm : (k : Course) → IsStaid k → IsCalm k
staid_calm Stops h = tt
staid_calm (Acts a rest) h = (staid_act a h.0, staid_calm rest h.1)
staid_calm (Keeps change rest) h = (staid_change change h.0, staid_calm rest h.1)
staid_calm (Falls why) h = tt

deciding_calm : (c : Cluster) (me : ℕ) (x : UpNode) → IsCalm (cuts.deciding_course c me x)
deciding_calm c me x = staid_calm (cuts.deciding_course c me x) (deciding_staid c me x)

excluded_calm : (me e newest : ℕ) (o : Option ℕ) → IsCalm (cuts.excluded_course me e newest o)
excluded_calm me e newest None = tt
excluded_calm me e newest (Some m) = either_calm (m == me) _ _ tt (tt, tt)

ended_calm : (me : ℕ) (e : AttemptEnd) (o : Option AttemptState) → IsCalm (cuts.ended_course me e o)
ended_calm me e None = tt
ended_calm me e (Some a) = (tt, excluded_calm me a.plan.epoch (unwrap_or (newest_installed a) 0) (left_out_by e))

queued_calm : (d : ℕ) (kind : SeizeKind) (o : Option AttemptState) → IsCalm (cuts.queued_course d kind o)
queued_calm d kind None = tt
queued_calm d kind (Some a) = (tt, tt)

step_calm : (me : ℕ) (x : UpNode) (s : Step) → IsCalm (cuts.step_course me x s)
step_calm me x (step.Send to m) = (tt, tt)
step_calm me x (step.SeizeHere d kind) = queued_calm d kind x.attempt
step_calm me x (step.NeedVotes n) = tt
step_calm me x (step.InstallHere i) = tt
step_calm me x step.StartHere = tt
step_calm me x (step.Ended e) = ended_calm me e x.attempt

steps_calm : (c : Cluster) (me : ℕ) (x : UpNode) (steps : List Step) → IsCalm (cuts.steps_course c me x steps)
steps_calm c me x [] = tt
steps_calm c me x (s ∷ steps) = then_calm c me x _ _ (step_calm me x s) (λ y. steps_calm c me y steps)

kept_if_calm : (keeps : Bool) (change : Change) (rest : Course) → CalmChange change → IsCalm rest → IsCalm (cuts.kept_if keeps change rest)
kept_if_calm true change rest h k = (h, k)
kept_if_calm false change rest h k = (h, k)

gone_on_calm : (c : Cluster) (me : ℕ) (x : UpNode) (a : AttemptState) (k : Call) (steps : List Step) → IsCalm (cuts.gone_on c me x a k steps)
gone_on_calm c me x a k steps = (tt, steps_calm c me (going x a k) steps)

counted_calm : (c : Cluster) (me : ℕ) (x : UpNode) (a : AttemptState) (k : Call) (i : Install) (rest : List Step) (seat : Seat) → IsCalm (cuts.counted c me x a k i rest seat)
counted_calm c me x a k i rest (Member s) = gone_on_calm c me x a k rest
counted_calm c me x a k i rest (Forming s) = either_calm (installs_now s i) _ _ (tt, steps_calm c me (changed c me x (Counts a k s i)) rest) (gone_on_calm c me x a k rest)

started_calm : (c : Cluster) (me : ℕ) (x : UpNode) (a : AttemptState) (k : Call) (rest : List Step) (seat : Seat) → IsCalm (cuts.started c me x a k rest seat)
started_calm c me x a k rest (Member s) = gone_on_calm c me x a k rest
started_calm c me x a k rest (Forming s) = either_calm (starts_now s (turn a k).after.plan.epoch) _ _ (kept_if_calm (is_some s.saved.entries.pending) (Starts a k s) (cuts.steps_course c me (changed c me x (Starts a k s)) rest) tt (steps_calm c me (changed c me x (Starts a k s)) rest)) (gone_on_calm c me x a k rest)

turned_by_calm : (c : Cluster) (me : ℕ) (x : UpNode) (a : AttemptState) (k : Call) (steps : List Step) → IsCalm (cuts.turned_by c me x a k steps)
turned_by_calm c me x a k [] = gone_on_calm c me x a k []
turned_by_calm c me x a k (step.InstallHere i ∷ rest) = counted_calm c me x a k i rest x.seat
turned_by_calm c me x a k (step.StartHere ∷ rest) = started_calm c me x a k rest x.seat
turned_by_calm c me x a k (step.Send to m ∷ rest) = gone_on_calm c me x a k (step.Send to m ∷ rest)
turned_by_calm c me x a k (step.SeizeHere d kind ∷ rest) = gone_on_calm c me x a k (step.SeizeHere d kind ∷ rest)
turned_by_calm c me x a k (step.NeedVotes n ∷ rest) = gone_on_calm c me x a k (step.NeedVotes n ∷ rest)
turned_by_calm c me x a k (step.Ended e ∷ rest) = gone_on_calm c me x a k (step.Ended e ∷ rest)

turned_calm : (c : Cluster) (me : ℕ) (x : UpNode) (a : AttemptState) (k : Call) → IsCalm (cuts.turned c me x a k)
turned_calm c me x a k = turned_by_calm c me x a k (turn a k).steps

if_started_calm : (c : Cluster) (me : ℕ) (steps : List Step) (y : UpNode) → IsCalm (cuts.if_started c me steps y)
if_started_calm c me steps y = either_calm (starts_in steps) _ _ (deciding_calm c me y) tt

turned_all_calm : (c : Cluster) (me : ℕ) (x : UpNode) (a : AttemptState) (k : Call) → IsCalm (cuts.turned_all c me x a k)
turned_all_calm c me x a k = then_calm c me x _ _ (turned_calm c me x a k) (λ z. if_started_calm c me (turn a k).steps z)

readied_calm : (c : Cluster) (me : ℕ) (x : UpNode) (o : Option AttemptState) → IsCalm (cuts.readied_course c me x o)
readied_calm c me x None = tt
readied_calm c me x (Some a) = turned_all_calm c me x a Own_ready

own_ready_calm : (c : Cluster) (me : ℕ) (x : UpNode) → IsCalm (cuts.own_ready_course c me x)
own_ready_calm c me x = either_calm (joins x.tasks) _ _ tt (readied_calm c me x x.attempt)

if_installed_calm : (c : Cluster) (me : ℕ) (steps : List Step) (y : UpNode) → IsCalm (cuts.if_installed c me steps y)
if_installed_calm c me steps y = either_calm (begins_install steps) _ _ (own_ready_calm c me y) tt

called_calm : (c : Cluster) (me : ℕ) (x : UpNode) (a : AttemptState) (k : Call) → IsCalm (cuts.called c me x a k)
called_calm c me x a k = then_calm c me x _ _ (turned_all_calm c me x a k) (λ z. if_installed_calm c me (turn a k).steps z)

pub going_calm : (c : Cluster) (me : ℕ) (x : UpNode) (a : AttemptState) (k : Call) → IsCalm (cuts.going_course c me x a k)
going_calm c me x a k = either_calm (is_choosing (turn a k).after.phase) _ _ (tt, called_calm c me (going x a k) (turn a k).after (With_votes (votes_in c (turn a k).after))) (called_calm c me x a k)

pub begun_calm : (c : Cluster) (me : ℕ) (x : UpNode) (t : Turn) → IsCalm (cuts.begun_course c me x t)
begun_calm c me x t = either_calm (is_choosing t.after.phase) _ _ (called_calm c me x t.after (With_votes (votes_in c t.after))) (steps_calm c me x t.steps)

heartbeat_calm : (me : ℕ) (x : UpNode) (from session : ℕ) (member : Bool) → IsCalm (cuts.heartbeat_course me x from session member)
heartbeat_calm me x from session member = either_calm (awaits_start me x from session member) _ _ (tt, tt) tt

collect_calm : (x : UpNode) (from p : ℕ) → IsCalm (cuts.collect_course x from p)
collect_calm x from p = either_calm (nat_lt (promised_of x) p) _ _ (tt, (tt, tt)) (either_calm (is_in x p) _ _ (tt, tt) (tt, tt))

request_calm : (x : UpNode) (from : ℕ) (kind : SeizeKind) (e members d : ℕ) (o : Option SeizeResult) → IsCalm (cuts.request_course x from kind e members d o)
request_calm x from kind e members d (Some result) = (tt, tt)
request_calm x from kind e members d None = either_calm (installed_of x == e) _ _ (tt, tt) (tt, tt)

seizing_calm : (x : UpNode) (from : ℕ) (kind : SeizeKind) (e members d : ℕ) → IsCalm (cuts.seizing_course x from kind e members d)
seizing_calm x from kind e members d = either_calm (is_in x e) _ _ (request_calm x from kind e members d (kept_of x.tasks d)) tt

readying_calm : (c : Cluster) (x : UpNode) (to : ℕ) → IsCalm (cuts.readying_course c x to)
readying_calm c x to = either_calm (joins x.tasks) _ _ tt (tt, tt)

installed_calm : (c : Cluster) (me : ℕ) (x : UpNode) (from : ℕ) (i : Install) (seat : Seat) → IsCalm (cuts.installed_course c me x from i seat)
installed_calm c me x from i (Member s) = readying_calm c x from
installed_calm c me x from i (Forming s) = either_calm (s.saved.installed == i.epoch) _ _ (readying_calm c x from) (tt, readying_calm c (changed c me x (Installs s i)) from)

install_calm : (c : Cluster) (me : ℕ) (x : UpNode) (from : ℕ) (i : Install) → IsCalm (cuts.install_course c me x from i)
install_calm c me x from i = either_calm (is_in x i.epoch) _ _ (installed_calm c me x from i x.seat) (tt, tt)

start_calm : (e : ℕ) (seat : Seat) → IsCalm (cuts.start_course e seat)
start_calm e (Member s) = tt
start_calm e (Forming s) = either_calm (starts_now s e) _ _ (kept_if_calm (is_some s.saved.entries.pending) (Sits s e) Stops tt tt) tt

notice_calm : (x : UpNode) (e newest : ℕ) → IsCalm (cuts.notice_course x e newest)
notice_calm x e newest = either_calm (is_in x e) _ _ tt tt

acknowledging_calm : (c : Cluster) (me : ℕ) (x : UpNode) → IsCalm (cuts.acknowledging_course c me x)
acknowledging_calm c me x = staid_calm (cuts.acknowledging_course c me x) (acknowledging_staid c me x)

handling_calm : (c : Cluster) (me : ℕ) (x : UpNode) → IsCalm (cuts.handling_course c me x)
handling_calm c me x = staid_calm (cuts.handling_course c me x) (handling_staid c me x)

kept_again_calm : (x : UpNode) (from : ℕ) (o : Option Kept) → IsCalm (cuts.kept_again_course x from o)
kept_again_calm x from None = tt
kept_again_calm x from (Some k) = (tt, tt)

arrived_calm : (c : Cluster) (me : ℕ) (x : UpNode) (p : Presidency) (a : Arrived) (how : Arrival) → IsCalm (cuts.arrived_course c me x p a how)
arrived_calm c me x p a New = let s : State = with_arrival p.proposals a New in (tt, handling_calm c me (with_proposals x p s))
arrived_calm c me x p a Waits_already = tt
arrived_calm c me x p a Answered_last = kept_again_calm x a.from (kept_at p.proposals.answers a.from)
arrived_calm c me x p a Past = tt

arriving_calm : (c : Cluster) (me : ℕ) (x : UpNode) (p : Presidency) (a : Arrived) → IsCalm (cuts.arriving_course c me x p a)
arriving_calm c me x p a = arrived_calm c me x p a (arrival_of p.proposals a.from a.number)

requested_calm : (c : Cluster) (me : ℕ) (x : UpNode) (from number : ℕ) (text : List ℕ) (o : Option Presidency) → IsCalm (cuts.requested_course c me x from number text o)
requested_calm c me x from number text None = tt
requested_calm c me x from number text (Some p) = arriving_calm c me x p (record { from = from; number = number; text = text })

asked_calm : (c : Cluster) (me : ℕ) (x : UpNode) (from e number : ℕ) (text : List ℕ) → IsCalm (cuts.asked_course c me x from e number text)
asked_calm c me x from e number text = either_calm (is_of_member x from e) _ _ (requested_calm c me x from number text x.presidency) tt

request_to_calm : (x : UpNode) (r : Request) (o : Option ℕ) → IsCalm (cuts.request_to_course x r o)
request_to_calm x r None = tt
request_to_calm x r (Some president) = (tt, tt)

asking_of_calm : (c : Cluster) (me : ℕ) (x : UpNode) (r : Request) (o : Option Presidency) → IsCalm (cuts.asking_of_course c me x r o)
asking_of_calm c me x r None = request_to_calm x r (coordinator_of x)
asking_of_calm c me x r (Some p) = arriving_calm c me x p (own_arrival me r)

asking_for_calm : (c : Cluster) (me : ℕ) (x : UpNode) (o : Option Request) → IsCalm (cuts.asking_for_course c me x o)
asking_for_calm c me x None = tt
asking_for_calm c me x (Some r) = asking_of_calm c me x r x.presidency

asking_calm : (c : Cluster) (me : ℕ) (x : UpNode) → IsCalm (cuts.asking_course c me x)
asking_calm c me x = asking_for_calm c me x (oldest x.requests)

replying_calm : (me number : ℕ) (told : Answer) → IsCalm (cuts.replying_course me number told)
replying_calm me number told = (tt, tt)

asking_if_calm : (alone : Bool) (c : Cluster) (me : ℕ) (x : UpNode) → IsCalm (cuts.asking_if_course alone c me x)
asking_if_calm alone c me x = either_calm alone _ _ (asking_calm c me x) tt

waiting_calm : (c : Cluster) (me : ℕ) (x : UpNode) (number : ℕ) (text : List ℕ) → IsCalm (cuts.waiting_course c me x number text)
waiting_calm c me x number text = either_calm (is_full x.requests) _ _ (replying_calm me number answer.QueueFull) (tt, asking_if_calm (is_idle x.requests.waiting) c me (waiting_with x number text))

elsewhere_calm : (me number : ℕ) (o : Option ℕ) → IsCalm (cuts.elsewhere_course me number o)
elsewhere_calm me number None = tt
elsewhere_calm me number (Some president) = replying_calm me number (answer.Ask president)

telling_calm : (me number : ℕ) (lines : List StatusEntry) → IsCalm (cuts.telling_course me number lines)
telling_calm me number lines = (tt, replying_calm me number answer.Ok)

query_calm : (me : ℕ) (x : UpNode) (p : Presidency) (number : ℕ) (s : ConfigState) (r : Result Accepted CheckError) → IsCalm (cuts.query_course me x p number s r)
query_calm me x p number s (Ok (accepted.Query q)) = telling_calm me number (query_lines x p s q)
query_calm me x p number s (Ok (accepted.Change u)) = tt
query_calm me x p number s (Ok (accepted.Act ask)) = tt
query_calm me x p number s (Err (because.Refused r)) = replying_calm me number (answer.Refused r)
query_calm me x p number s (Err because.NoMemory) = tt

queried_calm : (c : Cluster) (me : ℕ) (x : UpNode) (number : ℕ) (question : AdminCommand) (o : Option Presidency) → IsCalm (cuts.queried_course c me x number question o)
queried_calm c me x number question None = elsewhere_calm me number (coordinator_of x)
queried_calm c me x number question (Some p) = either_calm (is_full x.requests) _ _ (replying_calm me number answer.QueueFull) (query_calm me x p number (in_force c x) (checked c x p question))

commanded_calm : (c : Cluster) (me : ℕ) (x : UpNode) (number : ℕ) (o : AdminCommand) → IsCalm (cuts.commanded_course c me x number o)
commanded_calm c me x number (wish.Change u) = waiting_calm c me x number (words_of u)
commanded_calm c me x number (wish.Act a) = waiting_calm c me x number (ask_words_of a)
commanded_calm c me x number (wish.Status q) = queried_calm c me x number (wish.Status q) x.presidency
commanded_calm c me x number (wish.Rows table) = queried_calm c me x number (wish.Rows table) x.presidency

worded_calm : (c : Cluster) (me : ℕ) (x : UpNode) (number : ℕ) (r : Result AdminCommand WordError) → IsCalm (cuts.worded_course c me x number r)
worded_calm c me x number (Err e) = replying_calm me number (word_answer e)
worded_calm c me x number (Ok command) = either_calm (is_member x.seat) _ _ (commanded_calm c me x number command) (replying_calm me number answer.NotMember)

pub command_calm : (c : Cluster) (me : ℕ) (x : UpNode) (words : List ℕ) → IsCalm (cuts.command_course c me x words)
command_calm c me x words = (tt, (tt, worded_calm c me (numbered x) (next_number x.requests) (command_of (version_of c) words)))

replied_to_calm : (c : Cluster) (me : ℕ) (x : UpNode) (number : ℕ) (told : Answer) (o : Option Request) → IsCalm (cuts.replied_to_course c me x number told o)
replied_to_calm c me x number told None = tt
replied_to_calm c me x number told (Some r) = (tt, (tt, asking_calm c me (record x { requests = queue.answered x.requests number })))

replied_calm : (c : Cluster) (me : ℕ) (x : UpNode) (number : ℕ) (o : Option Answer) → IsCalm (cuts.replied_course c me x number o)
replied_calm c me x number None = tt
replied_calm c me x number (Some told) = replied_to_calm c me x number told (found x.requests.waiting number)

reply_calm : (c : Cluster) (me : ℕ) (x : UpNode) (e number : ℕ) (told : Option Answer) → IsCalm (cuts.reply_course c me x e number told)
reply_calm c me x e number told = either_calm (is_member x.seat && is_in x e) _ _ (replied_calm c me x number told) tt

preparing_calm : (from e place : ℕ) (s : NodeState) (text : List ℕ) (o : Prepared) → IsCalm (cuts.preparing_course from e place s text o)
preparing_calm from e place s text Taken = (tt, (tt, tt))
preparing_calm from e place s text Already = (tt, tt)
preparing_calm from e place s text (Gap k) = tt

prepare_calm : (x : UpNode) (from e place : ℕ) (text : List ℕ) (seat : Seat) → IsCalm (cuts.prepare_course x from e place text seat)
prepare_calm x from e place text (Forming s) = tt
prepare_calm x from e place text (Member s) = either_calm (is_in x e) _ _ (preparing_calm from e place s text (answer_for (length (texts_of s.saved.entries)) place)) tt

prepared_all_calm : (c : Cluster) (me : ℕ) (x : UpNode) (p : Presidency) → IsCalm (cuts.prepared_all_course c me x p)
prepared_all_calm c me x p = either_calm (is_prepared p.proposals) _ _ (then_calm c me x _ _ (acknowledging_calm c me x) (λ z. handling_calm c me z)) tt

prepared_at_calm : (c : Cluster) (me : ℕ) (x : UpNode) (from place : ℕ) (o : Option Presidency) → IsCalm (cuts.prepared_at_course c me x from place o)
prepared_at_calm c me x from place None = tt
prepared_at_calm c me x from place (Some p) = let s : State = prepared_by p.proposals from place in (tt, prepared_all_calm c me (with_proposals x p s) (record p { proposals = s }))

prepared_calm : (c : Cluster) (me : ℕ) (x : UpNode) (from e place : ℕ) → IsCalm (cuts.prepared_course c me x from e place)
prepared_calm c me x from e place = either_calm (is_of_member x from e) _ _ (prepared_at_calm c me x from place x.presidency) tt

commit_calm : (x : UpNode) (e place : ℕ) (seat : Seat) → IsCalm (cuts.commit_course x e place seat)
commit_calm x e place (Forming s) = tt
commit_calm x e place (Member s) = either_calm (is_in x e && commits_now s place) _ _ (tt, tt) tt

done_at_calm : (c : Cluster) (me : ℕ) (x : UpNode) (from number : ℕ) (outcome : Outcome) (o : Option Presidency) → IsCalm (cuts.done_at_course c me x from number outcome o)
done_at_calm c me x from number outcome o = staid_calm (cuts.done_at_course c me x from number outcome o) (done_at_staid c me x from number outcome o)

done_calm : (c : Cluster) (me : ℕ) (x : UpNode) (from e number : ℕ) (outcome : Outcome) → IsCalm (cuts.done_course c me x from e number outcome)
done_calm c me x from e number outcome = either_calm (is_of_member x from e) _ _ (done_at_calm c me x from number outcome x.presidency) tt

carrying_calm : (c : Cluster) (me : ℕ) (x : UpNode) (o : Order) (how : Carried) → IsCalm (cuts.carrying_course c me x o how)
carrying_calm c me x o how = staid_calm (cuts.carrying_course c me x o how) (carrying_staid c me x o how)

order_answered_calm : (from : ℕ) (o : Order) (how : Carried) (x : UpNode) → IsCalm (cuts.order_answered_course from o how x)
order_answered_calm from o carried.Old x = tt
order_answered_calm from o (carried.Called outcome) x = (tt, tt)
order_answered_calm from o carried.Cleared x = (tt, tt)
order_answered_calm from o (carried.Kept outcome) x = (tt, tt)

obeying_calm : (c : Cluster) (me : ℕ) (x : UpNode) (from : ℕ) (o : Order) (how : Carried) → IsCalm (cuts.obeying_course c me x from o how)
obeying_calm c me x from o how = then_calm c me x (cuts.carrying_course c me x o how) _ (carrying_calm c me x o how) (λ z. order_answered_calm from o how z)

order_calm : (c : Cluster) (me : ℕ) (outcome : Outcome) (x : UpNode) (from : ℕ) (o : Order) → IsCalm (cuts.order_course c me outcome x from o)
order_calm c me outcome x from o = either_calm (is_member x.seat && is_in x o.epoch) _ _ (obeying_calm c me x from o (answer_to x.worker o outcome)) tt

asking_this_calm : (c : Cluster) (me : ℕ) (x : UpNode) (o : Option Ask) → IsCalm (cuts.asking_this_course c me x o)
asking_this_calm c me x None = tt
asking_this_calm c me x (Some ask) = either_calm (is_member x.seat && not (is_full x.requests)) _ _ (tt, asking_if_calm (is_idle x.requests.waiting) c me (monitor_asked x ask)) tt

reporting_calm : (c : Cluster) (me : ℕ) (x : UpNode) (r : List ℕ) (how : Probed) → IsCalm (cuts.reporting_course c me x r how)
reporting_calm c me x r probe.NoMonitor = tt
reporting_calm c me x r probe.Good = (tt, (tt, tt))
reporting_calm c me x r (probe.Failed a) = (tt, (tt, asking_this_calm c me (reported x c r (probe.Failed a)) (asked_by a r)))

pub report_calm : (c : Cluster) (me : ℕ) (x : UpNode) (r : List ℕ) (good : Bool) → IsCalm (cuts.report_course c me x r good)
report_calm c me x r good = reporting_calm c me x r (probed x.worker (own_config c x) r good x.second)

serving_calm : (x : UpNode) (p : Presidency) (name : List ℕ) (client port : ℕ) (o : serving.Outcome) → IsCalm (cuts.serving_course x p name client port o)
serving_calm x p name client port o = (tt, (tt, tt))

serving_at_calm : (s : ConfigState) (x : UpNode) (p : Presidency) (name : List ℕ) (client port : ℕ) (o : Option Address) → IsCalm (cuts.serving_at_course s x p name client port o)
serving_at_calm s x p name client port None = tt
serving_at_calm s x p name client port (Some a) = serving_calm x p name client port (serving.chosen (clients.state_of p.balancer name) (request_for s p a client port))

serving_by_calm : (c : Cluster) (x : UpNode) (name : List ℕ) (client port : ℕ) (o : Option Presidency) → IsCalm (cuts.serving_by_course c x name client port o)
serving_by_calm c x name client port None = tt
serving_by_calm c x name client port (Some p) = serving_at_calm (in_force c x) x p name client port (named (in_force c x).addresses name)

pub client_calm : (c : Cluster) (x : UpNode) (name : List ℕ) (client port : ℕ) → IsCalm (cuts.client_course c x name client port)
client_calm c x name client port = serving_by_calm c x name client port x.presidency

answer_calm : (c : Cluster) (me : ℕ) (x : UpNode) (from : ℕ) (m : Message) (o : Option AttemptState) → IsCalm (cuts.answer_course c me x from m o)
answer_calm c me x from m None = tt
answer_calm c me x from m (Some a) = going_calm c me x a (Take from m)

pub body_calm : (c : Cluster) (me : ℕ) (outcome : Outcome) (x : UpNode) (from : ℕ) (m : Message) (b : Body) → IsCalm (cuts.body_course c me outcome x from m b)
body_calm c me outcome x from m (body.Heartbeat promised session member) = heartbeat_calm me x from session member
body_calm c me outcome x from m (body.Collect e members) = collect_calm x from e
body_calm c me outcome x from m (body.Promise e installed members valid flagged committed pending) = answer_calm c me x from m x.attempt
body_calm c me outcome x from m (body.Nack e promised) = answer_calm c me x from m x.attempt
body_calm c me outcome x from m (body.SeizeQuorum e members d) = seizing_calm x from Vote e members d
body_calm c me outcome x from m (body.SeizeData e members d) = seizing_calm x from Plain e members d
body_calm c me outcome x from m (body.Seized e d ended) = answer_calm c me x from m x.attempt
body_calm c me outcome x from m (body.Install i) = install_calm c me x from i
body_calm c me outcome x from m (body.Ready e joined_devices report) = answer_calm c me x from m x.attempt
body_calm c me outcome x from m (body.Start e) = start_calm e x.seat
body_calm c me outcome x from m (body.Excluded e newest) = notice_calm x e newest
body_calm c me outcome x from m (body.Prepare e place text) = prepare_calm x from e place text x.seat
body_calm c me outcome x from m (body.Prepared e place) = prepared_calm c me x from e place
body_calm c me outcome x from m (body.Commit e place) = commit_calm x e place x.seat
body_calm c me outcome x from m (body.Request e number text) = asked_calm c me x from e number text
body_calm c me outcome x from m (body.Answer e number text) = reply_calm c me x e number (answer_in text)
body_calm c me outcome x from m (body.Order o) = order_calm c me outcome x from o
body_calm c me outcome x from m (body.Done e number ended) = done_calm c me x from e number ended

pub distrusting_calm : (x : UpNode) (o : Option ℕ) → IsCalm (cuts.distrusting_course x o)
distrusting_calm x None = tt
distrusting_calm x (Some d) = either_calm (has (record_of x).valid d) _ _ (tt, tt) tt

own_seized_calm : (c : Cluster) (me : ℕ) (x : UpNode) (d : ℕ) (result : SeizeResult) (o : Option AttemptState) → IsCalm (cuts.own_seized_course c me x d result o)
own_seized_calm c me x d result None = tt
own_seized_calm c me x d result (Some a) = going_calm c me x a (Own_seized d result)

seized_calm : (c : Cluster) (me : ℕ) (x : UpNode) (d : ℕ) (result : SeizeResult) (o : Option ℕ) → IsCalm (cuts.seized_course c me x d result o)
seized_calm c me x d result None = tt
seized_calm c me x d result (Some coordinator) = either_calm (coordinator == me) _ _ (own_seized_calm c me x d result x.attempt) (tt, tt)

joined_calm : (c : Cluster) (me : ℕ) (x : UpNode) (o : Option ℕ) → IsCalm (cuts.joined_course c me x o)
joined_calm c me x None = tt
joined_calm c me x (Some coordinator) = either_calm (coordinator == me) _ _ (own_ready_calm c me x) (readying_calm c x coordinator)

joins_device_calm : (c : Cluster) (me : ℕ) (x : UpNode) (at : ℕ) (command : PrCommand) (a : DeviceAnswer) (d : ℕ) (r : JoinResult) → IsCalm (cuts.joining_course c me x at command a d r)
joins_device_calm c me x at command a d join.Joined = (tt, joined_calm c me (joining_so (answered_so x a) d) (coordinator_of (joining_so (answered_so x a) d)))
joins_device_calm c me x at command a d (join.Late w) = (tt, joined_calm c me (answered_so x a) (coordinator_of (answered_so x a)))
joins_device_calm c me x at command a d join.Fault = (tt, joined_calm c me (answered_so x a) (coordinator_of (answered_so x a)))

progress_calm : (c : Cluster) (me : ℕ) (x : UpNode) (at : ℕ) (command : PrCommand) (a : DeviceAnswer) (p : Progress) → IsCalm (cuts.progress_course c me x at command a p)
progress_calm c me x at command a GoesOn = (tt, tt)
progress_calm c me x at command a (Seized d result) = (tt, seized_calm c me (answered_so x a) d result (coordinator_of (answered_so x a)))
progress_calm c me x at command a (Joined d result) = joins_device_calm c me x at command a d result

pub answer_taken_calm : (c : Cluster) (me : ℕ) (x : UpNode) (a : DeviceAnswer) (o : Option ℕ) (command : Option PrCommand) → IsCalm (cuts.answered_course c me x a o command)
answer_taken_calm c me x a (Some d) (Some command) = progress_calm c me x d command a (progress_after x.tasks a)
answer_taken_calm c me x a None command = tt
answer_taken_calm c me x a (Some d) None = tt

pub fenced_calm : (d : ℕ) (a : DeviceAnswer) → IsCalm (cuts.fenced_course d a)
fenced_calm d (Ok given.Good) = tt
fenced_calm d (Ok given.Conflict) = tt
fenced_calm d (Ok given.InvalidRelease) = tt
fenced_calm d (Ok given.NoPath) = tt
fenced_calm d (Ok (given.Keys keys)) = tt
fenced_calm d (Ok (given.Holder holder)) = tt
fenced_calm d (Ok (given.Word w)) = tt
fenced_calm d (Ok (given.Value v)) = tt
fenced_calm d (Ok (given.Miscompare w)) = tt
fenced_calm d (Err e) = tt
