-- What a node does with requests, updates, orders and reports is ordinary.
use Rattle.std.specs.Prelude.{ℕ, zero, suc, ◌==◌, ◌&&◌, not, Bool, List, [], length, Option, None, Some, Result, Ok, Err}
use Rattle.std.specs.List.{AllByRecursion}
use Rattle.admin_commands.specs.declared.accepted.Accepted.{Accepted}
use Rattle.admin_commands.specs.declared.accepted.Accepted.TheVariants as accepted
use Rattle.admin_commands.specs.declared.error.CheckError.{CheckError}
use Rattle.admin_commands.specs.declared.error.CheckError.TheVariants as because
use Rattle.admin_words.specs.Commands.{command_of, request_of}
use Rattle.admin_words.specs.declared.error.WordError.{WordError}
use Rattle.admin_words.specs.declared.request.Request.TheVariants as asked
use Rattle.admin_words.specs.declared.request.Request as wanted
use Rattle.ccr_commit.specs.Entries.{answer_for, texts_of}
use Rattle.ccr_commit.specs.declared.entries.Prepared.{Prepared}
use Rattle.ccr_commit.specs.declared.entries.Prepared.TheVariants.{Taken, Already, Gap}
use Rattle.ccr_tables.specs.State.{ConfigState}
use Rattle.ccr_tables.specs.declared.address.Address.{Address}
use Rattle.ccr_tables.specs.declared.command.AdminCommand.{AdminCommand}
use Rattle.ccr_tables.specs.declared.command.AdminCommand.TheVariants as wish
use Rattle.cl_base.specs.declared.command.Ask.{Ask}
use Rattle.cl_base.specs.declared.method.Method.{Method}
use Rattle.cl_base.specs.declared.method.Outcome.{Outcome}
use Rattle.cl_base.specs.declared.panic.Panic.TheVariants as panic
use Rattle.cmm_attempt.proofs.Basics.{if_either}
use Rattle.cmm_member.specs.Nodes.{NodeState}
use Rattle.proposals.specs.Arrivals.{arrival_of, with_arrival}
use Rattle.proposals.specs.Proposing.{goes_again, is_prepared, prepared_by}
use Rattle.proposals.specs.State.{first_in, kept_at}
use Rattle.proposals.specs.declared.arrived.Arrival.{Arrival}
use Rattle.proposals.specs.declared.arrived.Arrival.TheVariants.{New, Waits as Waits_already, Answered as Answered_last, Past}
use Rattle.proposals.specs.declared.arrived.Arrived.{Arrived}
use Rattle.proposals.specs.declared.arrived.Kept.{Kept}
use Rattle.proposals.specs.declared.arrived.Proposed.{Proposed}
use Rattle.request_queue.specs.Queue as queue
use Rattle.request_queue.specs.Queue.{found, is_full, next_number, oldest, with_request}
use Rattle.request_queue.specs.declared.request.Request.{Request}
use Rattle.rg_props.specs.Lookups.{named}
use Rattle.rgm_member.specs.Orders.{answer_to, outcome_in}
use Rattle.rgm_member.specs.Probes.{probed}
use Rattle.rgm_member.specs.declared.carried.Carried.{Carried}
use Rattle.rgm_member.specs.declared.carried.Carried.TheVariants as carried
use Rattle.rgm_member.specs.declared.probed.Probed.{Probed}
use Rattle.rgm_member.specs.declared.probed.Probed.TheVariants as probe
use Rattle.rgm_state.specs.Outcomes as order
use Rattle.shared_address.specs.Choosing as serving
use Rattle.shared_address.specs.History as clients
use Rattle.shared_address.specs.declared.choice.Client.{Client}
use Rattle.status_report.specs.declared.command_entry.Answer.{Answer}
use Rattle.status_report.specs.declared.command_entry.Answer.TheVariants as answer
use Rattle.status_report.specs.declared.entry.Entry.TheVariants as entry
use Rattle.status_report.specs.declared.node_entry.DownCause.TheVariants as down
use Rattle.status_report.specs.declared.status_entry.StatusEntry.{StatusEntry}
use Rattle.update_words.specs.Words.{words_of}
use Rattle.wire.specs.declared.message.Order.{Order}
use Rattle.node_model.specs.Addresses.{forgot_lines, request_for, served_lines}
use Rattle.node_model.specs.Configurations.{in_force, own_config}
use Rattle.node_model.specs.Deciding.{may_order}
use Rattle.node_model.specs.declared.cluster.Cluster.{Cluster}
use Rattle.node_model.specs.declared.node.UpNode.{UpNode}
use Rattle.node_model.specs.declared.output.Output.TheVariants.{Tells}
use Rattle.node_model.specs.declared.presidency.Presidency.{Presidency}
use Rattle.node_model.specs.declared.seat.Seat.{Seat}
use Rattle.node_model.specs.declared.seat.Seat.TheVariants.{Forming, Member}
use Rattle.node_model.specs.Groups.{asked_by, call_told, is_last, monitor_asked, order_again, order_again_to, order_at, order_told, orders_again_by, orders_again_of, own_order, reported, with_ended}
use Rattle.node_model.specs.Presidents.{answer_given, checked, is_busy, is_clear, orders_for, others_of, own_arrival, own_line, proposed_by, query_lines, requests_of, told_lines, with_act, with_proposals, word_answer}
use Rattle.node_model.specs.Requests.{is_idle, numbered, waiting_with}
use Rattle.node_model.specs.Seats.{coordinator_of, is_in, is_member, record_of, version_of}
use Rattle.node_model.specs.Updates.{commits_now, is_of_member}
use Rattle.refinement.specs.Courses.{Course}
use Rattle.refinement.specs.Courses.Course.{Falls, Keeps, Stops}
use Rattle.refinement.specs.Cuts as cuts
use Rattle.refinement.specs.Cuts.{acknowledging_course, deciding_course, handling_course, one_turn_course, replying_course, turns_course, writing}
use Rattle.refinement.specs.Doings.{changed}
use Rattle.refinement.specs.Doings.Change.{Commits}
use Rattle.run_history.proofs.Calls.{deciding_is, orders_aside}
use Rattle.run_history.proofs.Kept.{any_is}
use Rattle.run_history.proofs.Lists.{both, mapped, of_each}
use Rattle.run_history.proofs.Ordinary.{GivesAside, IsOrdinary}

-- What is said.

own_aside : (me : ℕ) (told : Answer) (o : Option Request) → AllByRecursion GivesAside (own_line me told o)
own_aside me told None = tt
own_aside me told (Some r) = if_either (AllByRecursion GivesAside) r.told _ [] (tt, tt) tt

answer_aside : (me : ℕ) (x : UpNode) (a : Arrived) (told : Answer) → AllByRecursion GivesAside (answer_given me x a told)
answer_aside me x a told =
    if_either (AllByRecursion GivesAside) (a.from == me) (own_line me told (found x.requests.waiting a.number)) _ (own_aside me told (found x.requests.waiting a.number)) (tt, tt)

status_aside : (lines : List StatusEntry) → AllByRecursion GivesAside (told_lines lines)
status_aside lines = mapped GivesAside (λ l. Tells (entry.Status l)) lines (λ l. tt)

call_aside : (me : ℕ) (o : Order) (outcome : Outcome) (m : Option Method) → AllByRecursion GivesAside (call_told me o outcome m)
call_aside me o outcome None = tt
call_aside me o outcome (Some m) = (tt, (tt, tt))

order_aside : (me : ℕ) (o : Order) (how : Carried) → AllByRecursion GivesAside (order_told me o how)
order_aside me o (carried.Called outcome) = call_aside me o outcome o.method
order_aside me o carried.Cleared = tt
order_aside me o (carried.Kept outcome) = tt
order_aside me o carried.Old = tt

again_to_aside : (n : ℕ) (o : Option Order) → AllByRecursion GivesAside (order_again_to n o)
again_to_aside n None = tt
again_to_aside n (Some o) = (tt, tt)

again_by_aside : (before after : Option Presidency) → AllByRecursion GivesAside (orders_again_by before after)
unfolding orders_again_of
again_by_aside None after = tt
again_by_aside (Some before) None = tt
again_by_aside (Some before) (Some after) =
    of_each GivesAside (order_again _ after.groups) _ (λ n. if_either (AllByRecursion GivesAside) _ (order_again_to n (order_at n after.groups)) [] (again_to_aside n (order_at n after.groups)) tt)

forgot_aside : (name : List ℕ) (o : Option Client) → AllByRecursion GivesAside (forgot_lines name o)
forgot_aside name None = tt
forgot_aside name (Some k) = (tt, tt)

served_aside : (name : List ℕ) (client port : ℕ) (o : serving.Outcome) → AllByRecursion GivesAside (served_lines name client port o)
served_aside name client port o = both GivesAside (forgot_lines name o.forgot) _ (forgot_aside name o.forgot) (tt, tt)

-- Requests at their president.

answering_is : (D : ℕ → Type 0) (c : Cluster) (me : ℕ) (x : UpNode) (p : Presidency) (a : Arrived) (told : Answer) → IsOrdinary D (cuts.answering_course c me x p a told)
answering_is D c me x p a told = (answer_aside me x a told, (tt, deciding_is D c me (cuts.left_answered me x p a told)))

acknowledging_text_is : (D : ℕ → Type 0) (c : Cluster) (me : ℕ) (x : UpNode) (p : Presidency) (first : Option Arrived) (text : Option (List ℕ))
    → IsOrdinary D (cuts.acknowledging_text_course c me x p first text)
acknowledging_text_is D c me x p (Some a) (Some text) = (tt, (tt, (answer_aside me x a answer.Ok, deciding_is D c me (changed c me x (cuts.acks_of c me x p a text)))))
acknowledging_text_is D c me x p None text = tt
acknowledging_text_is D c me x p (Some a) None = tt

acknowledging_by_is : (D : ℕ → Type 0) (c : Cluster) (me : ℕ) (x : UpNode) (o : Option Presidency) → IsOrdinary D (cuts.acknowledging_by_course c me x o)
acknowledging_by_is D c me x None = tt
acknowledging_by_is D c me x (Some p) = acknowledging_text_is D c me x p (first_in p.proposals.arrived) (record_of x).entries.pending

acknowledging_is : (D : ℕ → Type 0) (c : Cluster) (me : ℕ) (x : UpNode) → IsOrdinary D (acknowledging_course c me x)
acknowledging_is D c me x = acknowledging_by_is D c me x x.presidency

proposing_is : (D : ℕ → Type 0) (c : Cluster) (me : ℕ) (x : UpNode) (p : Presidency) (text : List ℕ) → IsOrdinary D (cuts.proposing_course c me x p text)
proposing_is D c me x p text =
    let y : UpNode = proposed_by c me x p text in
    (tt, (tt, if_either (IsOrdinary D) (others_of me x == 0) (acknowledging_course c me y) Stops (acknowledging_is D c me y) tt))

acting_is : (D : ℕ → Type 0) (c : Cluster) (me : ℕ) (x : UpNode) (p : Presidency) (a : Arrived) (ask : Ask) → IsOrdinary D (cuts.acting_course c me x p a ask)
acting_is D c me x p a ask =
    if_either (IsOrdinary D) (may_order p.groups) _ Stops (orders_aside me (orders_for p.groups ask), answering_is D c me x (with_act c me x p a ask) a answer.Ok) tt

taken_as_is : (D : ℕ → Type 0) (c : Cluster) (me : ℕ) (x : UpNode) (p : Presidency) (a : Arrived) (r : Result Accepted CheckError) → IsOrdinary D (cuts.taken_as_course c me x p a r)
taken_as_is D c me x p a (Ok (accepted.Change u)) = proposing_is D c me x p (words_of u)
taken_as_is D c me x p a (Ok (accepted.Act ask)) = acting_is D c me x p a ask
taken_as_is D c me x p a (Ok (accepted.Query q)) = answering_is D c me x p a answer.Ok
taken_as_is D c me x p a (Err (because.Refused r)) = answering_is D c me x p a (answer.Refused r)
taken_as_is D c me x p a (Err because.NoMemory) = tt

taken_is : (D : ℕ → Type 0) (c : Cluster) (me : ℕ) (x : UpNode) (p : Presidency) (a : Arrived) (r : Result wanted.Request WordError) → IsOrdinary D (cuts.taken_course c me x p a r)
taken_is D c me x p a (Ok (asked.Change u)) =
    if_either (IsOrdinary D) (is_busy p.groups) Stops (cuts.taken_as_course c me x p a (checked c x p (wish.Change u))) tt (taken_as_is D c me x p a (checked c x p (wish.Change u)))
taken_is D c me x p a (Ok (asked.Act ask)) =
    if_either (IsOrdinary D) (is_busy p.groups && is_clear ask) Stops (cuts.taken_as_course c me x p a (checked c x p (wish.Act ask))) tt
    (taken_as_is D c me x p a (checked c x p (wish.Act ask)))
taken_is D c me x p a (Err e) = answering_is D c me x p a (word_answer e)

turn_of_is : (D : ℕ → Type 0) (c : Cluster) (me : ℕ) (x : UpNode) (p : Presidency) (o : Option Proposed) (first : Option Arrived) → IsOrdinary D (cuts.turn_of_course c me x p o first)
turn_of_is D c me x p None (Some a) = taken_is D c me x p a (request_of (version_of c) a.text)
turn_of_is D c me x p None None = tt
turn_of_is D c me x p (Some proposed) first = tt

turn_by_is : (D : ℕ → Type 0) (c : Cluster) (me : ℕ) (x : UpNode) (o : Option Presidency) → IsOrdinary D (cuts.turn_by_course c me x o)
turn_by_is D c me x None = tt
turn_by_is D c me x (Some p) = turn_of_is D c me x p p.proposals.proposed (first_in p.proposals.arrived)

turns_is : (D : ℕ → Type 0) (c : Cluster) (me : ℕ) (x : UpNode) (k : ℕ) → IsOrdinary D (turns_course c me x k)
turns_is D c me x zero = tt
turns_is D c me x (suc k) = any_is D c me x (turns_course c me x k) (one_turn_course c me) (turns_is D c me x k) (λ y. turn_by_is D c me y y.presidency)

handling_is : (D : ℕ → Type 0) (c : Cluster) (me : ℕ) (x : UpNode) → IsOrdinary D (handling_course c me x)
handling_is D c me x = turns_is D c me x (requests_of x x.presidency)

kept_again_is : (D : ℕ → Type 0) (x : UpNode) (from : ℕ) (o : Option Kept) → IsOrdinary D (cuts.kept_again_course x from o)
kept_again_is D x from None = tt
kept_again_is D x from (Some k) = (tt, tt)

arrived_is : (D : ℕ → Type 0) (c : Cluster) (me : ℕ) (x : UpNode) (p : Presidency) (a : Arrived) (arrival : Arrival) → IsOrdinary D (cuts.arrived_course c me x p a arrival)
arrived_is D c me x p a New = (tt, handling_is D c me (with_proposals x p (with_arrival p.proposals a New)))
arrived_is D c me x p a Waits_already = tt
arrived_is D c me x p a Answered_last = kept_again_is D x a.from (kept_at p.proposals.answers a.from)
arrived_is D c me x p a Past = tt

arriving_is : (D : ℕ → Type 0) (c : Cluster) (me : ℕ) (x : UpNode) (p : Presidency) (a : Arrived) → IsOrdinary D (cuts.arriving_course c me x p a)
arriving_is D c me x p a = arrived_is D c me x p a (arrival_of p.proposals a.from a.number)

requested_is : (D : ℕ → Type 0) (c : Cluster) (me : ℕ) (x : UpNode) (from number : ℕ) (text : List ℕ) (o : Option Presidency) → IsOrdinary D (cuts.requested_course c me x from number text o)
requested_is D c me x from number text None = tt
requested_is D c me x from number text (Some p) = arriving_is D c me x p (record { from = from; number = number; text = text })

pub asked_is : (D : ℕ → Type 0) (c : Cluster) (me : ℕ) (x : UpNode) (from e number : ℕ) (text : List ℕ) → IsOrdinary D (cuts.asked_course c me x from e number text)
asked_is D c me x from e number text =
    if_either (IsOrdinary D) (is_of_member x from e) (cuts.requested_course c me x from number text x.presidency) Stops (requested_is D c me x from number text x.presidency) tt

-- Requests at the node that asks.

request_to_is : (D : ℕ → Type 0) (x : UpNode) (r : Request) (o : Option ℕ) → IsOrdinary D (cuts.request_to_course x r o)
request_to_is D x r None = tt
request_to_is D x r (Some president) = (tt, tt)

asking_of_is : (D : ℕ → Type 0) (c : Cluster) (me : ℕ) (x : UpNode) (r : Request) (o : Option Presidency) → IsOrdinary D (cuts.asking_of_course c me x r o)
asking_of_is D c me x r None = request_to_is D x r (coordinator_of x)
asking_of_is D c me x r (Some p) = arriving_is D c me x p (own_arrival me r)

asking_for_is : (D : ℕ → Type 0) (c : Cluster) (me : ℕ) (x : UpNode) (o : Option Request) → IsOrdinary D (cuts.asking_for_course c me x o)
asking_for_is D c me x None = tt
asking_for_is D c me x (Some r) = asking_of_is D c me x r x.presidency

asking_is : (D : ℕ → Type 0) (c : Cluster) (me : ℕ) (x : UpNode) → IsOrdinary D (cuts.asking_course c me x)
asking_is D c me x = asking_for_is D c me x (oldest x.requests)

asking_if_is : (D : ℕ → Type 0) (alone : Bool) (c : Cluster) (me : ℕ) (x : UpNode) → IsOrdinary D (cuts.asking_if_course alone c me x)
asking_if_is D alone c me x = if_either (IsOrdinary D) alone (cuts.asking_course c me x) Stops (asking_is D c me x) tt

replying_is : (D : ℕ → Type 0) (me number : ℕ) (told : Answer) → IsOrdinary D (replying_course me number told)
replying_is D me number told = ((tt, tt), tt)

waiting_is : (D : ℕ → Type 0) (c : Cluster) (me : ℕ) (x : UpNode) (number : ℕ) (text : List ℕ) → IsOrdinary D (cuts.waiting_course c me x number text)
waiting_is D c me x number text =
    if_either (IsOrdinary D) (is_full x.requests) (replying_course me number answer.QueueFull) _ (replying_is D me number answer.QueueFull)
    (tt, asking_if_is D (is_idle x.requests.waiting) c me (waiting_with x number text))

elsewhere_is : (D : ℕ → Type 0) (me number : ℕ) (o : Option ℕ) → IsOrdinary D (cuts.elsewhere_course me number o)
elsewhere_is D me number None = tt
elsewhere_is D me number (Some president) = replying_is D me number (answer.Ask president)

query_is : (D : ℕ → Type 0) (me : ℕ) (x : UpNode) (p : Presidency) (number : ℕ) (s : ConfigState) (r : Result Accepted CheckError) → IsOrdinary D (cuts.query_course me x p number s r)
query_is D me x p number s (Ok (accepted.Query q)) = (status_aside (query_lines x p s q), replying_is D me number answer.Ok)
query_is D me x p number s (Ok (accepted.Change u)) = tt
query_is D me x p number s (Ok (accepted.Act ask)) = tt
query_is D me x p number s (Err (because.Refused r)) = replying_is D me number (answer.Refused r)
query_is D me x p number s (Err because.NoMemory) = tt

queried_is : (D : ℕ → Type 0) (c : Cluster) (me : ℕ) (x : UpNode) (number : ℕ) (question : AdminCommand) (o : Option Presidency) → IsOrdinary D (cuts.queried_course c me x number question o)
queried_is D c me x number question None = elsewhere_is D me number (coordinator_of x)
queried_is D c me x number question (Some p) =
    if_either (IsOrdinary D) (is_full x.requests) (replying_course me number answer.QueueFull) (cuts.query_course me x p number (in_force c x) (checked c x p question))
    (replying_is D me number answer.QueueFull) (query_is D me x p number (in_force c x) (checked c x p question))

commanded_is : (D : ℕ → Type 0) (c : Cluster) (me : ℕ) (x : UpNode) (number : ℕ) (k : AdminCommand) → IsOrdinary D (cuts.commanded_course c me x number k)
commanded_is D c me x number (wish.Change u) = waiting_is D c me x number _
commanded_is D c me x number (wish.Act a) = waiting_is D c me x number _
commanded_is D c me x number (wish.Status q) = queried_is D c me x number (wish.Status q) x.presidency
commanded_is D c me x number (wish.Rows table) = queried_is D c me x number (wish.Rows table) x.presidency

worded_is : (D : ℕ → Type 0) (c : Cluster) (me : ℕ) (x : UpNode) (number : ℕ) (r : Result AdminCommand WordError) → IsOrdinary D (cuts.worded_course c me x number r)
worded_is D c me x number (Err e) = replying_is D me number (word_answer e)
worded_is D c me x number (Ok k) =
    if_either (IsOrdinary D) (is_member x.seat) (cuts.commanded_course c me x number k) (replying_course me number answer.NotMember) (commanded_is D c me x number k)
    (replying_is D me number answer.NotMember)

pub command_is : (D : ℕ → Type 0) (c : Cluster) (me : ℕ) (x : UpNode) (words : List ℕ) → IsOrdinary D (cuts.command_course c me x words)
command_is D c me x words = ((tt, tt), (tt, worded_is D c me (numbered x) (next_number x.requests) (command_of (version_of c) words)))

replied_to_is : (D : ℕ → Type 0) (c : Cluster) (me : ℕ) (x : UpNode) (number : ℕ) (told : Answer) (o : Option Request) → IsOrdinary D (cuts.replied_to_course c me x number told o)
replied_to_is D c me x number told None = tt
replied_to_is D c me x number told (Some r) = (own_aside me told (Some r), (tt, asking_is D c me (record x { requests = queue.answered x.requests number })))

replied_is : (D : ℕ → Type 0) (c : Cluster) (me : ℕ) (x : UpNode) (number : ℕ) (o : Option Answer) → IsOrdinary D (cuts.replied_course c me x number o)
replied_is D c me x number None = tt
replied_is D c me x number (Some told) = replied_to_is D c me x number told (found x.requests.waiting number)

pub reply_is : (D : ℕ → Type 0) (c : Cluster) (me : ℕ) (x : UpNode) (e number : ℕ) (o : Option Answer) → IsOrdinary D (cuts.reply_course c me x e number o)
reply_is D c me x e number o = if_either (IsOrdinary D) (is_member x.seat && is_in x e) (cuts.replied_course c me x number o) Stops (replied_is D c me x number o) tt

-- Updates.

preparing_is : (D : ℕ → Type 0) (from e place : ℕ) (s : NodeState) (text : List ℕ) (r : Prepared) → IsOrdinary D (cuts.preparing_course from e place s text r)
preparing_is D from e place s text Taken = (tt, (tt, tt))
preparing_is D from e place s text Already = (tt, tt)
preparing_is D from e place s text (Gap k) = tt

pub prepare_is : (D : ℕ → Type 0) (x : UpNode) (from e place : ℕ) (text : List ℕ) (seat : Seat) → IsOrdinary D (cuts.prepare_course x from e place text seat)
prepare_is D x from e place text (Forming s) = tt
prepare_is D x from e place text (Member s) =
    if_either (IsOrdinary D) (is_in x e) (cuts.preparing_course from e place s text (answer_for (length (texts_of s.saved.entries)) place)) Stops
    (preparing_is D from e place s text (answer_for (length (texts_of s.saved.entries)) place)) tt

prepared_all_is : (D : ℕ → Type 0) (c : Cluster) (me : ℕ) (x : UpNode) (p : Presidency) → IsOrdinary D (cuts.prepared_all_course c me x p)
prepared_all_is D c me x p =
    if_either (IsOrdinary D) (is_prepared p.proposals) _ Stops
    (any_is D c me x (acknowledging_course c me x) (handling_course c me) (acknowledging_is D c me x) (λ y. handling_is D c me y)) tt

prepared_at_is : (D : ℕ → Type 0) (c : Cluster) (me : ℕ) (x : UpNode) (from place : ℕ) (o : Option Presidency) → IsOrdinary D (cuts.prepared_at_course c me x from place o)
prepared_at_is D c me x from place None = tt
prepared_at_is D c me x from place (Some p) =
    (tt, prepared_all_is D c me (with_proposals x p (prepared_by p.proposals from place)) (record p { proposals = prepared_by p.proposals from place }))

pub prepared_is : (D : ℕ → Type 0) (c : Cluster) (me : ℕ) (x : UpNode) (from e place : ℕ) → IsOrdinary D (cuts.prepared_course c me x from e place)
prepared_is D c me x from e place =
    if_either (IsOrdinary D) (is_of_member x from e) (cuts.prepared_at_course c me x from place x.presidency) Stops (prepared_at_is D c me x from place x.presidency) tt

pub commit_is : (D : ℕ → Type 0) (x : UpNode) (e place : ℕ) (seat : Seat) → IsOrdinary D (cuts.commit_course x e place seat)
commit_is D x e place (Forming s) = tt
commit_is D x e place (Member s) = if_either (IsOrdinary D) (is_in x e && commits_now s place) (Keeps (Commits s) Stops) Stops (tt, tt) tt

-- Orders.

done_at_is : (D : ℕ → Type 0) (c : Cluster) (me : ℕ) (x : UpNode) (from number : ℕ) (outcome : Outcome) (o : Option Presidency) → IsOrdinary D (cuts.done_at_course c me x from number outcome o)
done_at_is D c me x from number outcome None = tt
done_at_is D c me x from number outcome (Some p) =
    let y : UpNode = record x { presidency = Some (with_ended c x p from number outcome) } in
    if_either (IsOrdinary D) (order.is_due p.groups.view from number) _ Stops
    (tt, any_is D c me y (deciding_course c me y) (handling_course c me) (deciding_is D c me y) (λ z. handling_is D c me z)) tt

pub done_is : (D : ℕ → Type 0) (c : Cluster) (me : ℕ) (x : UpNode) (from e number : ℕ) (outcome : Outcome) → IsOrdinary D (cuts.done_course c me x from e number outcome)
done_is D c me x from e number outcome =
    if_either (IsOrdinary D) (is_of_member x from e) (cuts.done_at_course c me x from number outcome x.presidency) Stops (done_at_is D c me x from number outcome x.presidency) tt

carrying_is : (D : ℕ → Type 0) (c : Cluster) (me : ℕ) (x : UpNode) (o : Order) (how : Carried) → IsOrdinary D (cuts.carrying_course c me x o how)
carrying_is D c me x o how = (order_aside me o how, if_either (IsOrdinary D) (is_last c x o how) (Falls (down.Panic (panic.Stop o.resource))) _ tt (tt, tt))

order_answered_is : (D : ℕ → Type 0) (from : ℕ) (o : Order) (how : Carried) (x : UpNode) → IsOrdinary D (cuts.order_answered_course from o how x)
order_answered_is D from o carried.Old x = tt
order_answered_is D from o (carried.Called outcome) x = (tt, tt)
order_answered_is D from o carried.Cleared x = (tt, tt)
order_answered_is D from o (carried.Kept outcome) x = (tt, tt)

pub order_is : (D : ℕ → Type 0) (c : Cluster) (me : ℕ) (outcome : Outcome) (x : UpNode) (from : ℕ) (o : Order) → IsOrdinary D (cuts.order_course c me outcome x from o)
order_is D c me outcome x from o =
    let how : Carried = answer_to x.worker o outcome in
    if_either (IsOrdinary D) (is_member x.seat && is_in x o.epoch) (cuts.obeying_course c me x from o how) Stops
    (any_is D c me x (cuts.carrying_course c me x o how) (cuts.order_answered_course from o how) (carrying_is D c me x o how) (λ y. order_answered_is D from o how y)) tt

own_turn_is : (D : ℕ → Type 0) (c : Cluster) (me : ℕ) (outcome : Outcome) (x : UpNode) (o : Option Order) → IsOrdinary D (cuts.own_turn_course c me outcome x o)
own_turn_is D c me outcome x None = tt
own_turn_is D c me outcome x (Some o) =
    let how : Carried = answer_to x.worker o outcome in
    any_is D c me x (cuts.carrying_course c me x o how) (cuts.own_done_course c me o how) (carrying_is D c me x o how)
    (λ y. done_at_is D c me y me o.number (outcome_in how) y.presidency)

prepares_is : (D : ℕ → Type 0) (x : UpNode) (o : Option Proposed) (text : Option (List ℕ)) (rest : Course) → IsOrdinary D rest → IsOrdinary D (cuts.prepares_course x o text rest)
prepares_is D x (Some p) (Some text) rest h = (tt, h)
prepares_is D x None text rest h = h
prepares_is D x (Some p) None rest h = h

prepares_again_is : (D : ℕ → Type 0) (x : UpNode) (o : Option Presidency) (rest : Course) → IsOrdinary D rest → IsOrdinary D (cuts.prepares_again_course x o rest)
prepares_again_is D x None rest h = h
prepares_again_is D x (Some p) rest h =
    if_either (IsOrdinary D) (goes_again p.proposals) (cuts.prepares_course x p.proposals.proposed (record_of x).entries.pending rest) rest
    (prepares_is D x p.proposals.proposed (record_of x).entries.pending rest h) h

pub governing_is : (D : ℕ → Type 0) (c : Cluster) (me : ℕ) (outcome : Outcome) (before x : UpNode) → IsOrdinary D (cuts.governing_course c me outcome before x)
governing_is D c me outcome before x =
    any_is D c me x (cuts.own_turn_course c me outcome x (own_order me x)) (cuts.going_again_course c me before) (own_turn_is D c me outcome x (own_order me x))
    (λ y. prepares_again_is D before before.presidency _ (again_by_aside before.presidency y.presidency, deciding_is D c me y))

-- Reports.

asking_this_is : (D : ℕ → Type 0) (c : Cluster) (me : ℕ) (x : UpNode) (o : Option Ask) → IsOrdinary D (cuts.asking_this_course c me x o)
asking_this_is D c me x None = tt
asking_this_is D c me x (Some ask) =
    if_either (IsOrdinary D) (is_member x.seat && not (is_full x.requests)) _ Stops (tt, asking_if_is D (is_idle x.requests.waiting) c me (monitor_asked x ask)) tt

reporting_is : (D : ℕ → Type 0) (c : Cluster) (me : ℕ) (x : UpNode) (r : List ℕ) (p : Probed) → IsOrdinary D (cuts.reporting_course c me x r p)
reporting_is D c me x r probe.NoMonitor = tt
reporting_is D c me x r probe.Good = ((tt, tt), (tt, tt))
reporting_is D c me x r (probe.Failed a) = ((tt, tt), (tt, asking_this_is D c me (reported x c r (probe.Failed a)) (asked_by a r)))

pub report_is : (D : ℕ → Type 0) (c : Cluster) (me : ℕ) (x : UpNode) (r : List ℕ) (good : Bool) → IsOrdinary D (cuts.report_course c me x r good)
report_is D c me x r good = reporting_is D c me x r (probed x.worker (own_config c x) r good x.second)

-- Clients.

serving_at_is : (D : ℕ → Type 0) (s : ConfigState) (x : UpNode) (p : Presidency) (name : List ℕ) (client port : ℕ) (o : Option Address)
    → IsOrdinary D (cuts.serving_at_course s x p name client port o)
serving_at_is D s x p name client port None = tt
serving_at_is D s x p name client port (Some a) = (served_aside name client port (serving.chosen (clients.state_of p.balancer name) (request_for s p a client port)), (tt, tt))

serving_by_is : (D : ℕ → Type 0) (c : Cluster) (x : UpNode) (name : List ℕ) (client port : ℕ) (o : Option Presidency) → IsOrdinary D (cuts.serving_by_course c x name client port o)
serving_by_is D c x name client port None = tt
serving_by_is D c x name client port (Some p) = serving_at_is D (in_force c x) x p name client port (named (in_force c x).addresses name)

pub client_is : (D : ℕ → Type 0) (c : Cluster) (x : UpNode) (name : List ℕ) (client port : ℕ) → IsOrdinary D (cuts.client_course c x name client port)
client_is D c x name client port = serving_by_is D c x name client port x.presidency
