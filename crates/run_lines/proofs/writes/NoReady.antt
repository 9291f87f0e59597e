-- What most inputs make a node do says nothing of its being ready.
use Rattle.std.specs.Option.{unwrap_or}
use Rattle.admin_commands.specs.declared.accepted.Accepted.{Accepted}
use Rattle.admin_commands.specs.declared.accepted.Accepted.TheVariants as accepted
use Rattle.admin_commands.specs.declared.error.CheckError.{CheckError}
use Rattle.admin_commands.specs.declared.error.CheckError.TheVariants as because
use Rattle.admin_words.specs.Commands.{command_of, request_of}
use Rattle.admin_words.specs.declared.error.WordError.{WordError}
use Rattle.admin_words.specs.declared.request.Request.TheVariants as asked
use Rattle.admin_words.specs.declared.request.Request as wanted
use Rattle.ccr_commit.specs.Entries.{answer_for, texts_of}
use Rattle.ccr_commit.specs.declared.entries.Prepared.{Prepared}
use Rattle.ccr_commit.specs.declared.entries.Prepared.TheVariants.{Taken, Already, Gap}
use Rattle.ccr_tables.specs.State.{ConfigState}
use Rattle.ccr_tables.specs.declared.command.AdminCommand.{AdminCommand}
use Rattle.ccr_tables.specs.declared.command.AdminCommand.TheVariants as wish
use Rattle.cl_base.specs.Sets.{has}
use Rattle.cl_base.specs.declared.command.Ask.{Ask}
use Rattle.cl_base.specs.declared.method.Outcome.{Outcome}
use Rattle.cl_base.specs.Seizings.{SeizeResult}
use Rattle.cmm_attempt.specs.declared.step.AttemptEnd.{AttemptEnd}
use Rattle.cmm_attempt.specs.Attempts.{AttemptState, newest_installed}
use Rattle.cmm_member.specs.Nodes.{NodeState}
use Rattle.device_queue.specs.Queue.{kept_of}
use Rattle.pgr_device.specs.declared.command.PrAnswer.TheVariants as given
use Rattle.proposals.specs.Arrivals.{arrival_of, with_arrival}
use Rattle.proposals.specs.Proposing.{goes_again, is_prepared, prepared_by}
use Rattle.proposals.specs.State.{State, first_in, kept_at}
use Rattle.proposals.specs.declared.arrived.Arrival.{Arrival}
use Rattle.proposals.specs.declared.arrived.Arrival.TheVariants.{New, Waits as Waits_already, Answered as Answered_last, Past}
use Rattle.proposals.specs.declared.arrived.Arrived.{Arrived}
use Rattle.proposals.specs.declared.arrived.Kept.{Kept}
use Rattle.proposals.specs.declared.arrived.Proposed.{Proposed}
use Rattle.request_queue.specs.Queue as queue
use Rattle.request_queue.specs.Queue.{found, is_full, next_number, oldest}
use Rattle.request_queue.specs.declared.request.Request.{Request}
use Rattle.rgm_member.specs.Orders.{answer_to, outcome_in}
use Rattle.rgm_member.specs.Probes.{probed}
use Rattle.rgm_member.specs.declared.carried.Carried.{Carried}
use Rattle.rgm_member.specs.declared.carried.Carried.TheVariants as carried
use Rattle.rgm_member.specs.declared.probed.Probed.{Probed}
use Rattle.rgm_member.specs.declared.probed.Probed.TheVariants as probe
use Rattle.rgm_president.specs.Decisions as decisions
use Rattle.rgm_state.specs.Outcomes as order
use Rattle.seize.specs.Answers.{Answer as DeviceAnswer}
use Rattle.seize.specs.declared.kind.SeizeKind.{SeizeKind}
use Rattle.status_report.specs.declared.command_entry.Answer.{Answer}
use Rattle.status_report.specs.declared.command_entry.Answer.TheVariants as answer
use Rattle.status_report.specs.declared.status_entry.StatusEntry.{StatusEntry}
use Rattle.update_words.specs.Words.{ask_words_of, words_of}
use Rattle.wire.specs.declared.message.Order.{Order}
use Rattle.node_model.specs.Addresses.{request_for}
use Rattle.ccr_tables.specs.declared.address.Address.{Address}
use Rattle.rg_props.specs.Lookups.{named}
use Rattle.shared_address.specs.Choosing as serving
use Rattle.shared_address.specs.History as clients
use Rattle.node_model.specs.declared.cluster.Cluster.{Cluster}
use Rattle.node_model.specs.declared.node.UpNode.{UpNode}
use Rattle.node_model.specs.declared.presidency.Presidency.{Presidency}
use Rattle.node_model.specs.declared.seat.Seat.{Seat}
use Rattle.node_model.specs.declared.seat.Seat.TheVariants.{Forming, Member}
use Rattle.node_model.specs.Attempts.{left_out_by, starts_now}
use Rattle.node_model.specs.Configurations.{in_force, own_config}
use Rattle.node_model.specs.Deciding.{is_held_up, may_order}
use Rattle.node_model.specs.Groups.{asked_by, is_last, monitor_asked, orders_again, own_order, reported, with_ended}
use Rattle.node_model.specs.Members.{awaits_start}
use Rattle.node_model.specs.Presidents.{checked, is_busy, is_clear, others_of, own_arrival, proposed_by, query_lines, requests_of, with_act, with_proposals, word_answer}
use Rattle.node_model.specs.Requests.{is_idle, numbered, waiting_with}
use Rattle.node_model.specs.Updates.{commits_now, is_of_member}
use Rattle.refinement.specs.Courses.{Course, joined}
use Rattle.refinement.specs.Courses.Course.{Acts, Falls, Keeps, Stops}
use Rattle.refinement.specs.Cuts as cuts
use Rattle.refinement.specs.Cuts.{acks_of, left_answered}
use Rattle.std.specs.Prelude.{ℕ, zero, suc, ◌≡◌, ◌==◌, ◌&&◌, nat_lt, not, Bool, true, false, List, length, Option, None, Some, Result, Ok, Err, is_some, if◌then◌else◌}
use Rattle.std.proofs.Common.{refl}
use Rattle.node_model.specs.Seats.{coordinator_of, installed_of, is_in, is_member, promised_of, record_of, version_of}
use Rattle.refinement.specs.Doings.{acted, changed}
use Rattle.refinement.specs.Doings.Act.{Gives}
use Rattle.refinement.specs.Doings.Change.{Sits}
use Rattle.run_lines.specs.writes.Ready.{NoReady}

either_none : (b : Bool) (k l : Course) → NoReady k → NoReady l → NoReady (if b then k else l)
either_none true k l h i = h
either_none false k l h i = i

then_none : (c : Cluster) (me : ℕ) (x : UpNode) (k : Course) (next : UpNode → Course) → NoReady k → ((y : UpNode) → NoReady (next y)) → NoReady (joined c me x k next)
then_none c me x Stops next h i = i x
then_none c me x (Acts a rest) next h i = (h.0, then_none c me (acted c me x a) rest next h.1 i)
then_none c me x (Keeps change rest) next h i = (h.0, then_none c me (changed c me x change) rest next h.1 i)
then_none c me x (Falls why) next h i = tt

-- ---- each course

decided_none : (me : ℕ) (x : UpNode) (p : Presidency) (t : decisions.Turn) → NoReady (cuts.decided_course me x p t)
decided_none me x p t = (tt, (tt, tt))

deciding_by_none : (c : Cluster) (me : ℕ) (x : UpNode) (o : Option Presidency) → NoReady (cuts.deciding_by_course c me x o)
deciding_by_none c me x None = tt
deciding_by_none c me x (Some p) = either_none (may_order p.groups) _ _ (decided_none me x p (decisions.decision (in_force c x) x.second (is_held_up p) p.groups)) tt

pub deciding_none : (c : Cluster) (me : ℕ) (x : UpNode) → NoReady (cuts.deciding_course c me x)
deciding_none c me x = deciding_by_none c me x x.presidency

excluded_none : (me e newest : ℕ) (o : Option ℕ) → NoReady (cuts.excluded_course me e newest o)
excluded_none me e newest None = tt
excluded_none me e newest (Some m) = either_none (m == me) _ _ tt (tt, tt)

pub ended_none : (me : ℕ) (e : AttemptEnd) (o : Option AttemptState) → NoReady (cuts.ended_course me e o)
ended_none me e None = tt
ended_none me e (Some a) = (tt, excluded_none me a.plan.epoch (unwrap_or (newest_installed a) 0) (left_out_by e))

pub queued_none : (d : ℕ) (kind : SeizeKind) (o : Option AttemptState) → NoReady (cuts.queued_course d kind o)
queued_none d kind None = tt
queued_none d kind (Some a) = (tt, tt)

pub notice_none : (x : UpNode) (e newest : ℕ) → NoReady (cuts.notice_course x e newest)
notice_none x e newest = either_none (is_in x e) _ _ tt tt

answering_none : (c : Cluster) (me : ℕ) (x : UpNode) (p : Presidency) (a : Arrived) (told : Answer) → NoReady (cuts.answering_course c me x p a told)
answering_none c me x p a told = (tt, (tt, deciding_none c me (left_answered me x p a told)))

acknowledged_none : (c : Cluster) (me : ℕ) (x : UpNode) (p : Presidency) (a : Arrived) (text : List ℕ) → (record_of x).entries.pending ≡ Some text → NoReady (cuts.acknowledged_course c me x p a text)
acknowledged_none c me x p a text is = (tt, (tt, (tt, deciding_none c me (changed c me x (acks_of c me x p a text)))))

acknowledging_text_none : (c : Cluster) (me : ℕ) (x : UpNode) (p : Presidency) (o : Option Arrived) (text : Option (List ℕ)) → (record_of x).entries.pending ≡ text → NoReady (cuts.acknowledging_text_course c me x p o text)
acknowledging_text_none c me x p (Some a) (Some text) is = acknowledged_none c me x p a text is
acknowledging_text_none c me x p None text is = tt
acknowledging_text_none c me x p (Some a) None is = tt

acknowledging_by_none : (c : Cluster) (me : ℕ) (x : UpNode) (o : Option Presidency) → NoReady (cuts.acknowledging_by_course c me x o)
acknowledging_by_none c me x None = tt
acknowledging_by_none c me x (Some p) = acknowledging_text_none c me x p (first_in p.proposals.arrived) (record_of x).entries.pending refl

acknowledging_none : (c : Cluster) (me : ℕ) (x : UpNode) → NoReady (cuts.acknowledging_course c me x)
acknowledging_none c me x = acknowledging_by_none c me x x.presidency

proposing_none : (c : Cluster) (me : ℕ) (x : UpNode) (p : Presidency) (text : List ℕ) → NoReady (cuts.proposing_course c me x p text)
proposing_none c me x p text = (tt, (tt, either_none (others_of me x == 0) _ _ (acknowledging_none c me (proposed_by c me x p text)) tt))

acting_none : (c : Cluster) (me : ℕ) (x : UpNode) (p : Presidency) (a : Arrived) (ask : Ask) → NoReady (cuts.acting_course c me x p a ask)
acting_none c me x p a ask = either_none (may_order p.groups) _ _ (tt, answering_none c me x (with_act c me x p a ask) a answer.Ok) tt

taken_as_none : (c : Cluster) (me : ℕ) (x : UpNode) (p : Presidency) (a : Arrived) (r : Result Accepted CheckError) → NoReady (cuts.taken_as_course c me x p a r)
taken_as_none c me x p a (Ok (accepted.Change u)) = proposing_none c me x p (words_of u)
taken_as_none c me x p a (Ok (accepted.Act ask)) = acting_none c me x p a ask
taken_as_none c me x p a (Ok (accepted.Query q)) = answering_none c me x p a answer.Ok
taken_as_none c me x p a (Err (because.Refused r)) = answering_none c me x p a (answer.Refused r)
taken_as_none c me x p a (Err because.NoMemory) = tt

taken_none : (c : Cluster) (me : ℕ) (x : UpNode) (p : Presidency) (a : Arrived) (r : Result wanted.Request WordError) → NoReady (cuts.taken_course c me x p a r)
taken_none c me x p a (Ok (asked.Change u)) = either_none (is_busy p.groups) _ _ tt (taken_as_none c me x p a (checked c x p (wish.Change u)))
taken_none c me x p a (Ok (asked.Act ask)) = either_none (is_busy p.groups && is_clear ask) _ _ tt (taken_as_none c me x p a (checked c x p (wish.Act ask)))
taken_none c me x p a (Err e) = answering_none c me x p a (word_answer e)

turn_of_none : (c : Cluster) (me : ℕ) (x : UpNode) (p : Presidency) (o : Option Proposed) (first : Option Arrived) → NoReady (cuts.turn_of_course c me x p o first)
turn_of_none c me x p None (Some a) = taken_none c me x p a (request_of (version_of c) a.text)
turn_of_none c me x p None None = tt
turn_of_none c me x p (Some proposed) first = tt

turn_by_none : (c : Cluster) (me : ℕ) (x : UpNode) (o : Option Presidency) → NoReady (cuts.turn_by_course c me x o)
turn_by_none c me x None = tt
turn_by_none c me x (Some p) = turn_of_none c me x p p.proposals.proposed (first_in p.proposals.arrived)

one_turn_none : (c : Cluster) (me : ℕ) (x : UpNode) → NoReady (cuts.one_turn_course c me x)
one_turn_none c me x = turn_by_none c me x x.presidency

turns_none : (c : Cluster) (me : ℕ) (x : UpNode) (k : ℕ) → NoReady (cuts.turns_course c me x k)
turns_none c me x zero = tt
turns_none c me x (suc k) = then_none c me x _ _ (turns_none c me x k) (λ z. one_turn_none c me z)

handling_none : (c : Cluster) (me : ℕ) (x : UpNode) → NoReady (cuts.handling_course c me x)
handling_none c me x = turns_none c me x (requests_of x x.presidency)

kept_again_none : (x : UpNode) (from : ℕ) (o : Option Kept) → NoReady (cuts.kept_again_course x from o)
kept_again_none x from None = tt
kept_again_none x from (Some k) = (tt, tt)

arrived_none : (c : Cluster) (me : ℕ) (x : UpNode) (p : Presidency) (a : Arrived) (how : Arrival) → NoReady (cuts.arrived_course c me x p a how)
arrived_none c me x p a New = let s : State = with_arrival p.proposals a New in (tt, handling_none c me (with_proposals x p s))
arrived_none c me x p a Waits_already = tt
arrived_none c me x p a Answered_last = kept_again_none x a.from (kept_at p.proposals.answers a.from)
arrived_none c me x p a Past = tt

arriving_none : (c : Cluster) (me : ℕ) (x : UpNode) (p : Presidency) (a : Arrived) → NoReady (cuts.arriving_course c me x p a)
arriving_none c me x p a = arrived_none c me x p a (arrival_of p.proposals a.from a.number)

requested_none : (c : Cluster) (me : ℕ) (x : UpNode) (from number : ℕ) (text : List ℕ) (o : Option Presidency) → NoReady (cuts.requested_course c me x from number text o)
requested_none c me x from number text None = tt
requested_none c me x from number text (Some p) = arriving_none c me x p (record { from = from; number = number; text = text })

pub asked_none : (c : Cluster) (me : ℕ) (x : UpNode) (from e number : ℕ) (text : List ℕ) → NoReady (cuts.asked_course c me x from e number text)
asked_none c me x from e number text = either_none (is_of_member x from e) _ _ (requested_none c me x from number text x.presidency) tt

request_to_none : (x : UpNode) (r : Request) (o : Option ℕ) → NoReady (cuts.request_to_course x r o)
request_to_none x r None = tt
request_to_none x r (Some president) = (tt, tt)

asking_of_none : (c : Cluster) (me : ℕ) (x : UpNode) (r : Request) (o : Option Presidency) → NoReady (cuts.asking_of_course c me x r o)
asking_of_none c me x r None = request_to_none x r (coordinator_of x)
asking_of_none c me x r (Some p) = arriving_none c me x p (own_arrival me r)

asking_for_none : (c : Cluster) (me : ℕ) (x : UpNode) (o : Option Request) → NoReady (cuts.asking_for_course c me x o)
asking_for_none c me x None = tt
asking_for_none c me x (Some r) = asking_of_none c me x r x.presidency

asking_none : (c : Cluster) (me : ℕ) (x : UpNode) → NoReady (cuts.asking_course c me x)
asking_none c me x = asking_for_none c me x (oldest x.requests)

replying_none : (me number : ℕ) (told : Answer) → NoReady (cuts.replying_course me number told)
replying_none me number told = (tt, tt)

asking_if_none : (alone : Bool) (c : Cluster) (me : ℕ) (x : UpNode) → NoReady (cuts.asking_if_course alone c me x)
asking_if_none alone c me x = either_none alone _ _ (asking_none c me x) tt

waiting_none : (c : Cluster) (me : ℕ) (x : UpNode) (number : ℕ) (text : List ℕ) → NoReady (cuts.waiting_course c me x number text)
waiting_none c me x number text = either_none (is_full x.requests) _ _ (replying_none me number answer.QueueFull) (tt, asking_if_none (is_idle x.requests.waiting) c me (waiting_with x number text))

elsewhere_none : (me number : ℕ) (o : Option ℕ) → NoReady (cuts.elsewhere_course me number o)
elsewhere_none me number None = tt
elsewhere_none me number (Some president) = replying_none me number (answer.Ask president)

telling_none : (me number : ℕ) (lines : List StatusEntry) → NoReady (cuts.telling_course me number lines)
telling_none me number lines = (tt, replying_none me number answer.Ok)

query_none : (me : ℕ) (x : UpNode) (p : Presidency) (number : ℕ) (s : ConfigState) (r : Result Accepted CheckError) → NoReady (cuts.query_course me x p number s r)
query_none me x p number s (Ok (accepted.Query q)) = telling_none me number (query_lines x p s q)
query_none me x p number s (Ok (accepted.Change u)) = tt
query_none me x p number s (Ok (accepted.Act ask)) = tt
query_none me x p number s (Err (because.Refused r)) = replying_none me number (answer.Refused r)
query_none me x p number s (Err because.NoMemory) = tt

queried_none : (c : Cluster) (me : ℕ) (x : UpNode) (number : ℕ) (question : AdminCommand) (o : Option Presidency) → NoReady (cuts.queried_course c me x number question o)
queried_none c me x number question None = elsewhere_none me number (coordinator_of x)
queried_none c me x number question (Some p) = either_none (is_full x.requests) _ _ (replying_none me number answer.QueueFull) (query_none me x p number (in_force c x) (checked c x p question))

commanded_none : (c : Cluster) (me : ℕ) (x : UpNode) (number : ℕ) (o : AdminCommand) → NoReady (cuts.commanded_course c me x number o)
commanded_none c me x number (wish.Change u) = waiting_none c me x number (words_of u)
commanded_none c me x number (wish.Act a) = waiting_none c me x number (ask_words_of a)
commanded_none c me x number (wish.Status q) = queried_none c me x number (wish.Status q) x.presidency
commanded_none c me x number (wish.Rows table) = queried_none c me x number (wish.Rows table) x.presidency

worded_none : (c : Cluster) (me : ℕ) (x : UpNode) (number : ℕ) (r : Result AdminCommand WordError) → NoReady (cuts.worded_course c me x number r)
worded_none c me x number (Err e) = replying_none me number (word_answer e)
worded_none c me x number (Ok command) = either_none (is_member x.seat) _ _ (commanded_none c me x number command) (replying_none me number answer.NotMember)

pub command_none : (c : Cluster) (me : ℕ) (x : UpNode) (words : List ℕ) → NoReady (cuts.command_course c me x words)
command_none c me x words = (tt, (tt, worded_none c me (numbered x) (next_number x.requests) (command_of (version_of c) words)))

replied_to_none : (c : Cluster) (me : ℕ) (x : UpNode) (number : ℕ) (told : Answer) (o : Option Request) → NoReady (cuts.replied_to_course c me x number told o)
replied_to_none c me x number told None = tt
replied_to_none c me x number told (Some r) = (tt, (tt, asking_none c me (record x { requests = queue.answered x.requests number })))

replied_none : (c : Cluster) (me : ℕ) (x : UpNode) (number : ℕ) (o : Option Answer) → NoReady (cuts.replied_course c me x number o)
replied_none c me x number None = tt
replied_none c me x number (Some told) = replied_to_none c me x number told (found x.requests.waiting number)

pub reply_none : (c : Cluster) (me : ℕ) (x : UpNode) (e number : ℕ) (told : Option Answer) → NoReady (cuts.reply_course c me x e number told)
reply_none c me x e number told = either_none (is_member x.seat && is_in x e) _ _ (replied_none c me x number told) tt

prepared_all_none : (c : Cluster) (me : ℕ) (x : UpNode) (p : Presidency) → NoReady (cuts.prepared_all_course c me x p)
prepared_all_none c me x p = either_none (is_prepared p.proposals) _ _ (then_none c me x _ _ (acknowledging_none c me x) (λ z. handling_none c me z)) tt

prepared_at_none : (c : Cluster) (me : ℕ) (x : UpNode) (from place : ℕ) (o : Option Presidency) → NoReady (cuts.prepared_at_course c me x from place o)
prepared_at_none c me x from place None = tt
prepared_at_none c me x from place (Some p) = let s : State = prepared_by p.proposals from place in (tt, prepared_all_none c me (with_proposals x p s) (record p { proposals = s }))

pub prepared_none : (c : Cluster) (me : ℕ) (x : UpNode) (from e place : ℕ) → NoReady (cuts.prepared_course c me x from e place)
prepared_none c me x from e place = either_none (is_of_member x from e) _ _ (prepared_at_none c me x from place x.presidency) tt

pub commit_none : (x : UpNode) (e place : ℕ) (seat : Seat) → NoReady (cuts.commit_course x e place seat)
commit_none x e place (Forming s) = tt
commit_none x e place (Member s) = either_none (is_in x e && commits_now s place) _ _ (tt, tt) tt

done_at_none : (c : Cluster) (me : ℕ) (x : UpNode) (from number : ℕ) (outcome : Outcome) (o : Option Presidency) → NoReady (cuts.done_at_course c me x from number outcome o)
done_at_none c me x from number outcome None = tt
done_at_none c me x from number outcome (Some p) = either_none (order.is_due p.groups.view from number) _ _ (tt, then_none c me (record x { presidency = Some (with_ended c x p from number outcome) }) _ _ (deciding_none c me (record x { presidency = Some (with_ended c x p from number outcome) })) (λ z. handling_none c me z)) tt

pub done_none : (c : Cluster) (me : ℕ) (x : UpNode) (from e number : ℕ) (outcome : Outcome) → NoReady (cuts.done_course c me x from e number outcome)
done_none c me x from e number outcome = either_none (is_of_member x from e) _ _ (done_at_none c me x from number outcome x.presidency) tt

carrying_none : (c : Cluster) (me : ℕ) (x : UpNode) (o : Order) (how : Carried) → NoReady (cuts.carrying_course c me x o how)
carrying_none c me x o how = (tt, either_none (is_last c x o how) _ _ tt (tt, tt))

order_answered_none : (from : ℕ) (o : Order) (how : Carried) (x : UpNode) → NoReady (cuts.order_answered_course from o how x)
order_answered_none from o carried.Old x = tt
order_answered_none from o (carried.Called outcome) x = (tt, tt)
order_answered_none from o carried.Cleared x = (tt, tt)
order_answered_none from o (carried.Kept outcome) x = (tt, tt)

obeying_none : (c : Cluster) (me : ℕ) (x : UpNode) (from : ℕ) (o : Order) (how : Carried) → NoReady (cuts.obeying_course c me x from o how)
obeying_none c me x from o how = then_none c me x (cuts.carrying_course c me x o how) _ (carrying_none c me x o how) (λ z. order_answered_none from o how z)

pub order_none : (c : Cluster) (me : ℕ) (outcome : Outcome) (x : UpNode) (from : ℕ) (o : Order) → NoReady (cuts.order_course c me outcome x from o)
order_none c me outcome x from o = either_none (is_member x.seat && is_in x o.epoch) _ _ (obeying_none c me x from o (answer_to x.worker o outcome)) tt

own_done_none : (c : Cluster) (me : ℕ) (o : Order) (how : Carried) (x : UpNode) → NoReady (cuts.own_done_course c me o how x)
own_done_none c me o how x = done_at_none c me x me o.number (outcome_in how) x.presidency

own_turn_none : (c : Cluster) (me : ℕ) (outcome : Outcome) (x : UpNode) (o : Option Order) → NoReady (cuts.own_turn_course c me outcome x o)
own_turn_none c me outcome x None = tt
own_turn_none c me outcome x (Some o) = then_none c me x (cuts.carrying_course c me x o (answer_to x.worker o outcome)) _ (carrying_none c me x o (answer_to x.worker o outcome)) (λ z. own_done_none c me o (answer_to x.worker o outcome) z)

prepares_none : (x : UpNode) (o : Option Proposed) (text : Option (List ℕ)) (rest : Course) → NoReady rest → NoReady (cuts.prepares_course x o text rest)
prepares_none x (Some p) (Some text) rest h = (tt, h)
prepares_none x None text rest h = h
prepares_none x (Some p) None rest h = h

prepares_again_none : (x : UpNode) (o : Option Presidency) (rest : Course) → NoReady rest → NoReady (cuts.prepares_again_course x o rest)
prepares_again_none x None rest h = h
prepares_again_none x (Some p) rest h = either_none (goes_again p.proposals) _ _ (prepares_none x p.proposals.proposed (record_of x).entries.pending rest h) h

going_again_none : (c : Cluster) (me : ℕ) (before x : UpNode) → NoReady (cuts.going_again_course c me before x)
going_again_none c me before x = prepares_again_none before before.presidency (Acts (Gives (orders_again before x)) (cuts.deciding_course c me x)) (tt, deciding_none c me x)

pub governing_none : (c : Cluster) (me : ℕ) (outcome : Outcome) (before x : UpNode) → NoReady (cuts.governing_course c me outcome before x)
governing_none c me outcome before x = then_none c me x _ _ (own_turn_none c me outcome x (own_order me x)) (λ z. going_again_none c me before z)

asking_this_none : (c : Cluster) (me : ℕ) (x : UpNode) (o : Option Ask) → NoReady (cuts.asking_this_course c me x o)
asking_this_none c me x None = tt
asking_this_none c me x (Some ask) = either_none (is_member x.seat && not (is_full x.requests)) _ _ (tt, asking_if_none (is_idle x.requests.waiting) c me (monitor_asked x ask)) tt

reporting_none : (c : Cluster) (me : ℕ) (x : UpNode) (r : List ℕ) (how : Probed) → NoReady (cuts.reporting_course c me x r how)
reporting_none c me x r probe.NoMonitor = tt
reporting_none c me x r probe.Good = (tt, (tt, tt))
reporting_none c me x r (probe.Failed a) = (tt, (tt, asking_this_none c me (reported x c r (probe.Failed a)) (asked_by a r)))

pub report_none : (c : Cluster) (me : ℕ) (x : UpNode) (r : List ℕ) (good : Bool) → NoReady (cuts.report_course c me x r good)
report_none c me x r good = reporting_none c me x r (probed x.worker (own_config c x) r good x.second)

serving_none : (x : UpNode) (p : Presidency) (name : List ℕ) (client port : ℕ) (o : serving.Outcome) → NoReady (cuts.serving_course x p name client port o)
serving_none x p name client port o = (tt, (tt, tt))

serving_at_none : (s : ConfigState) (x : UpNode) (p : Presidency) (name : List ℕ) (client port : ℕ) (o : Option Address) → NoReady (cuts.serving_at_course s x p name client port o)
serving_at_none s x p name client port None = tt
serving_at_none s x p name client port (Some a) = serving_none x p name client port (serving.chosen (clients.state_of p.balancer name) (request_for s p a client port))

serving_by_none : (c : Cluster) (x : UpNode) (name : List ℕ) (client port : ℕ) (o : Option Presidency) → NoReady (cuts.serving_by_course c x name client port o)
serving_by_none c x name client port None = tt
serving_by_none c x name client port (Some p) = serving_at_none (in_force c x) x p name client port (named (in_force c x).addresses name)

pub client_none : (c : Cluster) (x : UpNode) (name : List ℕ) (client port : ℕ) → NoReady (cuts.client_course c x name client port)
client_none c x name client port = serving_by_none c x name client port x.presidency

pub distrusting_none : (x : UpNode) (o : Option ℕ) → NoReady (cuts.distrusting_course x o)
distrusting_none x None = tt
distrusting_none x (Some d) = either_none (has (record_of x).valid d) _ _ (tt, tt) tt

pub fenced_none : (d : ℕ) (a : DeviceAnswer) → NoReady (cuts.fenced_course d a)
fenced_none d (Ok given.Good) = tt
fenced_none d (Ok given.Conflict) = tt
fenced_none d (Ok given.InvalidRelease) = tt
fenced_none d (Ok given.NoPath) = tt
fenced_none d (Ok (given.Keys keys)) = tt
fenced_none d (Ok (given.Holder holder)) = tt
fenced_none d (Ok (given.Word w)) = tt
fenced_none d (Ok (given.Value v)) = tt
fenced_none d (Ok (given.Miscompare w)) = tt
fenced_none d (Err e) = tt

-- ---- messages but for an Install, and but for the answers to an attempt of its own

pub heartbeat_none : (me : ℕ) (x : UpNode) (from session : ℕ) (member : Bool) → NoReady (cuts.heartbeat_course me x from session member)
heartbeat_none me x from session member = either_none (awaits_start me x from session member) _ _ (tt, tt) tt

pub collect_none : (x : UpNode) (from p : ℕ) → NoReady (cuts.collect_course x from p)
collect_none x from p = either_none (nat_lt (promised_of x) p) _ _ (tt, (tt, tt)) (either_none (is_in x p) _ _ (tt, tt) (tt, tt))

request_none : (x : UpNode) (from : ℕ) (kind : SeizeKind) (e members d : ℕ) (o : Option SeizeResult) → NoReady (cuts.request_course x from kind e members d o)
request_none x from kind e members d (Some result) = (tt, tt)
request_none x from kind e members d None = either_none (installed_of x == e) _ _ (tt, tt) (tt, tt)

pub seizing_none : (x : UpNode) (from : ℕ) (kind : SeizeKind) (e members d : ℕ) → NoReady (cuts.seizing_course x from kind e members d)
seizing_none x from kind e members d = either_none (is_in x e) _ _ (request_none x from kind e members d (kept_of x.tasks d)) tt

sits_none : (keeps : Bool) (s : NodeState) (e : ℕ) → NoReady (cuts.kept_if keeps (Sits s e) Stops)
sits_none true s e = (tt, tt)
sits_none false s e = (tt, tt)

pub start_none : (e : ℕ) (seat : Seat) → NoReady (cuts.start_course e seat)
start_none e (Member s) = tt
start_none e (Forming s) = either_none (starts_now s e) _ _ (sits_none (is_some s.saved.entries.pending) s e) tt

preparing_none : (from e place : ℕ) (s : NodeState) (text : List ℕ) (o : Prepared) → NoReady (cuts.preparing_course from e place s text o)
preparing_none from e place s text Taken = (tt, (tt, tt))
preparing_none from e place s text Already = (tt, tt)
preparing_none from e place s text (Gap k) = tt

pub prepare_none : (x : UpNode) (from e place : ℕ) (text : List ℕ) (seat : Seat) → NoReady (cuts.prepare_course x from e place text seat)
prepare_none x from e place text (Forming s) = tt
prepare_none x from e place text (Member s) = either_none (is_in x e) _ _ (preparing_none from e place s text (answer_for (length (texts_of s.saved.entries)) place)) tt
