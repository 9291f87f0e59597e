-- What a node does with requests, orders and reports: it saves what it proposes, and then what it acknowledges; nothing else.
use Rattle.std.specs.Prelude.{ℕ, zero, suc, ◌==◌, ◌≡◌, ◌&&◌, not, Bool, true, List, Option, None, Some, Result, Ok, Err}
use Rattle.std.proofs.Common.{refl}
use Rattle.admin_commands.specs.declared.accepted.Accepted.{Accepted}
use Rattle.admin_commands.specs.declared.accepted.Accepted.TheVariants as accepted
use Rattle.admin_commands.specs.declared.error.CheckError.{CheckError}
use Rattle.admin_commands.specs.declared.error.CheckError.TheVariants as because
use Rattle.admin_words.specs.Commands.{command_of, request_of}
use Rattle.admin_words.specs.declared.error.WordError.{WordError}
use Rattle.admin_words.specs.declared.request.Request.TheVariants as asked
use Rattle.admin_words.specs.declared.request.Request as wanted
use Rattle.ccr_tables.specs.State.{ConfigState}
use Rattle.ccr_tables.specs.declared.command.AdminCommand.{AdminCommand}
use Rattle.ccr_tables.specs.declared.command.AdminCommand.TheVariants as wish
use Rattle.cl_base.specs.declared.command.Ask.{Ask}
use Rattle.cl_base.specs.declared.method.Outcome.{Outcome}
use Rattle.cl_base.specs.declared.panic.Panic.TheVariants as panic
use Rattle.cmm_attempt.proofs.Basics.{if_either}
use Rattle.proposals.specs.Arrivals.{arrival_of, with_arrival}
use Rattle.proposals.specs.State.{first_in, kept_at}
use Rattle.proposals.specs.declared.arrived.Arrival.{Arrival}
use Rattle.proposals.specs.declared.arrived.Arrival.TheVariants.{New, Waits as Waits_already, Answered as Answered_last, Past}
use Rattle.proposals.specs.declared.arrived.Arrived.{Arrived}
use Rattle.proposals.specs.declared.arrived.Kept.{Kept}
use Rattle.proposals.specs.declared.arrived.Proposed.{Proposed}
use Rattle.request_queue.specs.Queue as queue
use Rattle.request_queue.specs.Queue.{found, is_full, next_number, oldest}
use Rattle.request_queue.specs.declared.request.Request.{Request}
use Rattle.rgm_member.specs.Orders.{answer_to}
use Rattle.rgm_member.specs.Probes.{probed}
use Rattle.rgm_member.specs.declared.carried.Carried.{Carried}
use Rattle.rgm_member.specs.declared.carried.Carried.TheVariants as carried
use Rattle.rgm_member.specs.declared.probed.Probed.{Probed}
use Rattle.rgm_member.specs.declared.probed.Probed.TheVariants as probe
use Rattle.rgm_state.specs.Outcomes as order
use Rattle.status_report.specs.declared.command_entry.Answer.{Answer}
use Rattle.status_report.specs.declared.command_entry.Answer.TheVariants as answer
use Rattle.status_report.specs.declared.node_entry.DownCause.TheVariants as down
use Rattle.update_words.specs.Words.{words_of}
use Rattle.wire.specs.declared.message.Order.{Order}
use Rattle.node_model.specs.Configurations.{in_force, own_config}
use Rattle.node_model.specs.Deciding.{may_order}
use Rattle.node_model.specs.declared.cluster.Cluster.{Cluster}
use Rattle.node_model.specs.declared.node.UpNode.{UpNode}
use Rattle.node_model.specs.declared.presidency.Presidency.{Presidency}
use Rattle.node_model.specs.Groups.{asked_by, is_last, monitor_asked, reported, with_ended}
use Rattle.node_model.specs.Presidents.{checked, is_busy, is_clear, others_of, own_arrival, proposed_by, requests_of, with_act, with_proposals, word_answer}
use Rattle.node_model.specs.Requests.{is_idle, numbered, waiting_with}
use Rattle.node_model.specs.Seats.{coordinator_of, is_in, is_member, record_of, version_of}
use Rattle.node_model.specs.Updates.{is_of_member}
use Rattle.refinement.specs.Courses.{Course, joined}
use Rattle.refinement.specs.Courses.Course.{Acts, Falls, Keeps, Stops}
use Rattle.refinement.specs.Cuts as cuts
use Rattle.refinement.specs.Cuts.{acknowledging_course, deciding_by_course, deciding_course, handling_course, one_turn_course, replying_course, turns_course}
use Rattle.refinement.specs.Doings.{Act, acted, changed}
use Rattle.refinement.specs.Doings.Act.{Makes}
use Rattle.refinement.specs.Doings.Change.{Acks, Proposes}

abbrev pub IsNoMake : Act → Type 0
IsNoMake (Makes change) = ⊥
IsNoMake _ = Unit {0}

-- each save is that of a proposal, or comes behind one
abbrev pub SavesProposed : Bool → Course → Type 0
SavesProposed told Stops = Unit {0}
SavesProposed told (Acts a rest) = IsNoMake a × SavesProposed told rest
SavesProposed told (Keeps (Proposes s p text) rest) = SavesProposed true rest
SavesProposed told (Keeps (Acks s p q left text) rest) = (told ≡ true) × SavesProposed told rest
SavesProposed told (Keeps _ rest) = ⊥
SavesProposed told (Falls why) = Unit {0}

pub any_p : (t : Bool) (c : Cluster) (me : ℕ) (x : UpNode) (k : Course) (next : UpNode → Course) → SavesProposed t k → ((y : UpNode) (u : Bool) → SavesProposed u (next y)) → SavesProposed t (joined c me x k next)
any_p t c me x Stops next h f = f x t
any_p t c me x (Acts a rest) next h f = (h.0, any_p t c me (acted c me x a) rest next h.1 f)
any_p t c me x (Keeps (Proposes s p text) rest) next h f = any_p true c me (changed c me x (Proposes s p text)) rest next h f
any_p t c me x (Keeps (Acks s p q left text) rest) next h f = (h.0, any_p t c me (changed c me x (Acks s p q left text)) rest next h.1 f)
any_p t c me x (Keeps _ rest) next h f = absurd h
any_p t c me x (Falls why) next h f = tt

deciding_by_p : (t : Bool) (c : Cluster) (me : ℕ) (x : UpNode) (o : Option Presidency) → SavesProposed t (deciding_by_course c me x o)
deciding_by_p t c me x None = tt
deciding_by_p t c me x (Some p) = if_either (SavesProposed t) (may_order p.groups) _ Stops (tt, (tt, tt)) tt

pub deciding_p : (t : Bool) (c : Cluster) (me : ℕ) (x : UpNode) → SavesProposed t (deciding_course c me x)
deciding_p t c me x = deciding_by_p t c me x x.presidency

-- Requests at their president.

answering_p : (t : Bool) (c : Cluster) (me : ℕ) (x : UpNode) (p : Presidency) (a : Arrived) (told : Answer) → SavesProposed t (cuts.answering_course c me x p a told)
answering_p t c me x p a told = (tt, (tt, deciding_p t c me (cuts.left_answered me x p a told)))

acknowledging_text_p : (c : Cluster) (me : ℕ) (x : UpNode) (p : Presidency) (first : Option Arrived) (text : Option (List ℕ)) → SavesProposed true (cuts.acknowledging_text_course c me x p first text)
acknowledging_text_p c me x p (Some a) (Some text) = (refl, (tt, (tt, deciding_p true c me (changed c me x (cuts.acks_of c me x p a text)))))
acknowledging_text_p c me x p None text = tt
acknowledging_text_p c me x p (Some a) None = tt

acknowledging_by_p : (c : Cluster) (me : ℕ) (x : UpNode) (o : Option Presidency) → SavesProposed true (cuts.acknowledging_by_course c me x o)
acknowledging_by_p c me x None = tt
acknowledging_by_p c me x (Some p) = acknowledging_text_p c me x p (first_in p.proposals.arrived) (record_of x).entries.pending

proposing_p : (t : Bool) (c : Cluster) (me : ℕ) (x : UpNode) (p : Presidency) (text : List ℕ) → SavesProposed t (cuts.proposing_course c me x p text)
proposing_p t c me x p text =
    let y : UpNode = proposed_by c me x p text in
    (tt, if_either (SavesProposed true) (others_of me x == 0) (acknowledging_course c me y) Stops (acknowledging_by_p c me y y.presidency) tt)

acting_p : (t : Bool) (c : Cluster) (me : ℕ) (x : UpNode) (p : Presidency) (a : Arrived) (ask : Ask) → SavesProposed t (cuts.acting_course c me x p a ask)
acting_p t c me x p a ask = if_either (SavesProposed t) (may_order p.groups) _ Stops (tt, answering_p t c me x (with_act c me x p a ask) a answer.Ok) tt

taken_as_p : (t : Bool) (c : Cluster) (me : ℕ) (x : UpNode) (p : Presidency) (a : Arrived) (r : Result Accepted CheckError) → SavesProposed t (cuts.taken_as_course c me x p a r)
taken_as_p t c me x p a (Ok (accepted.Change u)) = proposing_p t c me x p (words_of u)
taken_as_p t c me x p a (Ok (accepted.Act ask)) = acting_p t c me x p a ask
taken_as_p t c me x p a (Ok (accepted.Query q)) = answering_p t c me x p a answer.Ok
taken_as_p t c me x p a (Err (because.Refused r)) = answering_p t c me x p a (answer.Refused r)
taken_as_p t c me x p a (Err because.NoMemory) = tt

taken_p : (t : Bool) (c : Cluster) (me : ℕ) (x : UpNode) (p : Presidency) (a : Arrived) (r : Result wanted.Request WordError) → SavesProposed t (cuts.taken_course c me x p a r)
taken_p t c me x p a (Ok (asked.Change u)) =
    if_either (SavesProposed t) (is_busy p.groups) Stops (cuts.taken_as_course c me x p a (checked c x p (wish.Change u))) tt (taken_as_p t c me x p a (checked c x p (wish.Change u)))
taken_p t c me x p a (Ok (asked.Act ask)) =
    if_either (SavesProposed t) (is_busy p.groups && is_clear ask) Stops (cuts.taken_as_course c me x p a (checked c x p (wish.Act ask))) tt (taken_as_p t c me x p a (checked c x p (wish.Act ask)))
taken_p t c me x p a (Err e) = answering_p t c me x p a (word_answer e)

turn_of_p : (t : Bool) (c : Cluster) (me : ℕ) (x : UpNode) (p : Presidency) (o : Option Proposed) (first : Option Arrived) → SavesProposed t (cuts.turn_of_course c me x p o first)
turn_of_p t c me x p None (Some a) = taken_p t c me x p a (request_of (version_of c) a.text)
turn_of_p t c me x p None None = tt
turn_of_p t c me x p (Some proposed) first = tt

turn_by_p : (t : Bool) (c : Cluster) (me : ℕ) (x : UpNode) (o : Option Presidency) → SavesProposed t (cuts.turn_by_course c me x o)
turn_by_p t c me x None = tt
turn_by_p t c me x (Some p) = turn_of_p t c me x p p.proposals.proposed (first_in p.proposals.arrived)

turns_p : (t : Bool) (c : Cluster) (me : ℕ) (x : UpNode) (k : ℕ) → SavesProposed t (turns_course c me x k)
turns_p t c me x zero = tt
turns_p t c me x (suc k) = any_p t c me x (turns_course c me x k) (one_turn_course c me) (turns_p t c me x k) (λ y u. turn_by_p u c me y y.presidency)

pub handling_p : (t : Bool) (c : Cluster) (me : ℕ) (x : UpNode) → SavesProposed t (handling_course c me x)
handling_p t c me x = turns_p t c me x (requests_of x x.presidency)

kept_again_p : (t : Bool) (x : UpNode) (from : ℕ) (o : Option Kept) → SavesProposed t (cuts.kept_again_course x from o)
kept_again_p t x from None = tt
kept_again_p t x from (Some k) = (tt, tt)

arrived_p : (t : Bool) (c : Cluster) (me : ℕ) (x : UpNode) (p : Presidency) (a : Arrived) (arrival : Arrival) → SavesProposed t (cuts.arrived_course c me x p a arrival)
arrived_p t c me x p a New = (tt, handling_p t c me (with_proposals x p (with_arrival p.proposals a New)))
arrived_p t c me x p a Waits_already = tt
arrived_p t c me x p a Answered_last = kept_again_p t x a.from (kept_at p.proposals.answers a.from)
arrived_p t c me x p a Past = tt

arriving_p : (t : Bool) (c : Cluster) (me : ℕ) (x : UpNode) (p : Presidency) (a : Arrived) → SavesProposed t (cuts.arriving_course c me x p a)
arriving_p t c me x p a = arrived_p t c me x p a (arrival_of p.proposals a.from a.number)

requested_p : (t : Bool) (c : Cluster) (me : ℕ) (x : UpNode) (from number : ℕ) (text : List ℕ) (o : Option Presidency) → SavesProposed t (cuts.requested_course c me x from number text o)
requested_p t c me x from number text None = tt
requested_p t c me x from number text (Some p) = arriving_p t c me x p (record { from = from; number = number; text = text })

pub asked_p : (t : Bool) (c : Cluster) (me : ℕ) (x : UpNode) (from e number : ℕ) (text : List ℕ) → SavesProposed t (cuts.asked_course c me x from e number text)
asked_p t c me x from e number text =
    if_either (SavesProposed t) (is_of_member x from e) (cuts.requested_course c me x from number text x.presidency) Stops (requested_p t c me x from number text x.presidency) tt

-- Requests at the node that asks.

request_to_p : (t : Bool) (x : UpNode) (r : Request) (o : Option ℕ) → SavesProposed t (cuts.request_to_course x r o)
request_to_p t x r None = tt
request_to_p t x r (Some president) = (tt, tt)

asking_of_p : (t : Bool) (c : Cluster) (me : ℕ) (x : UpNode) (r : Request) (o : Option Presidency) → SavesProposed t (cuts.asking_of_course c me x r o)
asking_of_p t c me x r None = request_to_p t x r (coordinator_of x)
asking_of_p t c me x r (Some p) = arriving_p t c me x p (own_arrival me r)

asking_for_p : (t : Bool) (c : Cluster) (me : ℕ) (x : UpNode) (o : Option Request) → SavesProposed t (cuts.asking_for_course c me x o)
asking_for_p t c me x None = tt
asking_for_p t c me x (Some r) = asking_of_p t c me x r x.presidency

asking_p : (t : Bool) (c : Cluster) (me : ℕ) (x : UpNode) → SavesProposed t (cuts.asking_course c me x)
asking_p t c me x = asking_for_p t c me x (oldest x.requests)

asking_if_p : (t alone : Bool) (c : Cluster) (me : ℕ) (x : UpNode) → SavesProposed t (cuts.asking_if_course alone c me x)
asking_if_p t alone c me x = if_either (SavesProposed t) alone (cuts.asking_course c me x) Stops (asking_p t c me x) tt

waiting_p : (t : Bool) (c : Cluster) (me : ℕ) (x : UpNode) (number : ℕ) (text : List ℕ) → SavesProposed t (cuts.waiting_course c me x number text)
waiting_p t c me x number text =
    if_either (SavesProposed t) (is_full x.requests) (replying_course me number answer.QueueFull) _ (tt, tt) (tt, asking_if_p t (is_idle x.requests.waiting) c me (waiting_with x number text))

elsewhere_p : (t : Bool) (me number : ℕ) (o : Option ℕ) → SavesProposed t (cuts.elsewhere_course me number o)
elsewhere_p t me number None = tt
elsewhere_p t me number (Some president) = (tt, tt)

query_p : (t : Bool) (me : ℕ) (x : UpNode) (p : Presidency) (number : ℕ) (s : ConfigState) (r : Result Accepted CheckError) → SavesProposed t (cuts.query_course me x p number s r)
query_p t me x p number s (Ok (accepted.Query q)) = (tt, (tt, tt))
query_p t me x p number s (Ok (accepted.Change u)) = tt
query_p t me x p number s (Ok (accepted.Act ask)) = tt
query_p t me x p number s (Err (because.Refused r)) = (tt, tt)
query_p t me x p number s (Err because.NoMemory) = tt

queried_p : (t : Bool) (c : Cluster) (me : ℕ) (x : UpNode) (number : ℕ) (question : AdminCommand) (o : Option Presidency) → SavesProposed t (cuts.queried_course c me x number question o)
queried_p t c me x number question None = elsewhere_p t me number (coordinator_of x)
queried_p t c me x number question (Some p) =
    if_either (SavesProposed t) (is_full x.requests) (replying_course me number answer.QueueFull) (cuts.query_course me x p number (in_force c x) (checked c x p question))
    (tt, tt) (query_p t me x p number (in_force c x) (checked c x p question))

commanded_p : (t : Bool) (c : Cluster) (me : ℕ) (x : UpNode) (number : ℕ) (k : AdminCommand) → SavesProposed t (cuts.commanded_course c me x number k)
commanded_p t c me x number (wish.Change u) = waiting_p t c me x number _
commanded_p t c me x number (wish.Act a) = waiting_p t c me x number _
commanded_p t c me x number (wish.Status q) = queried_p t c me x number (wish.Status q) x.presidency
commanded_p t c me x number (wish.Rows table) = queried_p t c me x number (wish.Rows table) x.presidency

worded_p : (t : Bool) (c : Cluster) (me : ℕ) (x : UpNode) (number : ℕ) (r : Result AdminCommand WordError) → SavesProposed t (cuts.worded_course c me x number r)
worded_p t c me x number (Err e) = (tt, tt)
worded_p t c me x number (Ok k) =
    if_either (SavesProposed t) (is_member x.seat) (cuts.commanded_course c me x number k) (replying_course me number answer.NotMember) (commanded_p t c me x number k) (tt, tt)

pub command_p : (t : Bool) (c : Cluster) (me : ℕ) (x : UpNode) (words : List ℕ) → SavesProposed t (cuts.command_course c me x words)
command_p t c me x words = (tt, (tt, worded_p t c me (numbered x) (next_number x.requests) (command_of (version_of c) words)))

replied_to_p : (t : Bool) (c : Cluster) (me : ℕ) (x : UpNode) (number : ℕ) (told : Answer) (o : Option Request) → SavesProposed t (cuts.replied_to_course c me x number told o)
replied_to_p t c me x number told None = tt
replied_to_p t c me x number told (Some r) = (tt, (tt, asking_p t c me (record x { requests = queue.answered x.requests number })))

replied_p : (t : Bool) (c : Cluster) (me : ℕ) (x : UpNode) (number : ℕ) (o : Option Answer) → SavesProposed t (cuts.replied_course c me x number o)
replied_p t c me x number None = tt
replied_p t c me x number (Some told) = replied_to_p t c me x number told (found x.requests.waiting number)

pub reply_p : (t : Bool) (c : Cluster) (me : ℕ) (x : UpNode) (e number : ℕ) (o : Option Answer) → SavesProposed t (cuts.reply_course c me x e number o)
reply_p t c me x e number o = if_either (SavesProposed t) (is_member x.seat && is_in x e) (cuts.replied_course c me x number o) Stops (replied_p t c me x number o) tt

-- Orders.

done_at_p : (t : Bool) (c : Cluster) (me : ℕ) (x : UpNode) (from number : ℕ) (outcome : Outcome) (o : Option Presidency) → SavesProposed t (cuts.done_at_course c me x from number outcome o)
done_at_p t c me x from number outcome None = tt
done_at_p t c me x from number outcome (Some p) =
    let y : UpNode = record x { presidency = Some (with_ended c x p from number outcome) } in
    if_either (SavesProposed t) (order.is_due p.groups.view from number) _ Stops
    (tt, any_p t c me y (deciding_course c me y) (handling_course c me) (deciding_p t c me y) (λ z u. handling_p u c me z)) tt

pub done_p : (t : Bool) (c : Cluster) (me : ℕ) (x : UpNode) (from e number : ℕ) (outcome : Outcome) → SavesProposed t (cuts.done_course c me x from e number outcome)
done_p t c me x from e number outcome =
    if_either (SavesProposed t) (is_of_member x from e) (cuts.done_at_course c me x from number outcome x.presidency) Stops (done_at_p t c me x from number outcome x.presidency) tt

carrying_p : (t : Bool) (c : Cluster) (me : ℕ) (x : UpNode) (o : Order) (how : Carried) → SavesProposed t (cuts.carrying_course c me x o how)
carrying_p t c me x o how = (tt, if_either (SavesProposed t) (is_last c x o how) (Falls (down.Panic (panic.Stop o.resource))) _ tt (tt, tt))

order_answered_p : (t : Bool) (from : ℕ) (o : Order) (how : Carried) (x : UpNode) → SavesProposed t (cuts.order_answered_course from o how x)
order_answered_p t from o carried.Old x = tt
order_answered_p t from o (carried.Called outcome) x = (tt, tt)
order_answered_p t from o carried.Cleared x = (tt, tt)
order_answered_p t from o (carried.Kept outcome) x = (tt, tt)

pub order_p : (t : Bool) (c : Cluster) (me : ℕ) (outcome : Outcome) (x : UpNode) (from : ℕ) (o : Order) → SavesProposed t (cuts.order_course c me outcome x from o)
order_p t c me outcome x from o =
    let how : Carried = answer_to x.worker o outcome in
    if_either (SavesProposed t) (is_member x.seat && is_in x o.epoch) (cuts.obeying_course c me x from o how) Stops
    (any_p t c me x (cuts.carrying_course c me x o how) (cuts.order_answered_course from o how) (carrying_p t c me x o how) (λ y u. order_answered_p u from o how y)) tt

-- Reports.

asking_this_p : (t : Bool) (c : Cluster) (me : ℕ) (x : UpNode) (o : Option Ask) → SavesProposed t (cuts.asking_this_course c me x o)
asking_this_p t c me x None = tt
asking_this_p t c me x (Some ask) =
    if_either (SavesProposed t) (is_member x.seat && not (is_full x.requests)) _ Stops (tt, asking_if_p t (is_idle x.requests.waiting) c me (monitor_asked x ask)) tt

reporting_p : (t : Bool) (c : Cluster) (me : ℕ) (x : UpNode) (r : List ℕ) (p : Probed) → SavesProposed t (cuts.reporting_course c me x r p)
reporting_p t c me x r probe.NoMonitor = tt
reporting_p t c me x r probe.Good = (tt, (tt, tt))
reporting_p t c me x r (probe.Failed a) = (tt, (tt, asking_this_p t c me (reported x c r (probe.Failed a)) (asked_by a r)))

pub report_p : (t : Bool) (c : Cluster) (me : ℕ) (x : UpNode) (r : List ℕ) (good : Bool) → SavesProposed t (cuts.report_course c me x r good)
report_p t c me x r good = reporting_p t c me x r (probed x.worker (own_config c x) r good x.second)
