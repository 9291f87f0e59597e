-- Courses in which nothing is done at devices.
use Rattle.std.specs.Prelude.{ℕ, zero, suc, ◌==◌, ◌&&◌, nat_lt, not, Bool, List, Option, None, Some, Result, Ok, Err, is_some}
use Rattle.admin_commands.specs.declared.accepted.Accepted.{Accepted}
use Rattle.admin_commands.specs.declared.accepted.Accepted.TheVariants as accepted
use Rattle.admin_commands.specs.declared.error.CheckError.{CheckError}
use Rattle.admin_commands.specs.declared.error.CheckError.TheVariants as because
use Rattle.admin_words.specs.Commands.{command_of, request_of}
use Rattle.admin_words.specs.declared.error.WordError.{WordError}
use Rattle.admin_words.specs.declared.request.Request.TheVariants as asked
use Rattle.admin_words.specs.declared.request.Request as wanted
use Rattle.answer_words.specs.Answers.{answer_in}
use Rattle.ccr_commit.specs.Entries.{answer_for}
use Rattle.ccr_commit.specs.declared.entries.Prepared.{Prepared}
use Rattle.ccr_commit.specs.declared.entries.Prepared.TheVariants.{Taken, Already, Gap}
use Rattle.ccr_tables.specs.State.{ConfigState}
use Rattle.ccr_tables.specs.declared.address.Address.{Address}
use Rattle.ccr_tables.specs.declared.command.AdminCommand.{AdminCommand}
use Rattle.ccr_tables.specs.declared.command.AdminCommand.TheVariants as wish
use Rattle.cl_base.specs.declared.command.Ask.{Ask}
use Rattle.cl_base.specs.declared.method.Outcome.{Outcome}
use Rattle.cmm_attempt.proofs.Basics.{if_either}
use Rattle.cmm_member.specs.Nodes.{NodeState}
use Rattle.node_model.specs.Configurations.{in_force, own_config}
use Rattle.node_model.specs.Deciding.{is_held_up, may_order}
use Rattle.node_model.specs.Groups.{asked_by, is_last, monitor_asked, orders_again, own_order, reported, with_ended}
use Rattle.node_model.specs.Members.{awaits_start}
use Rattle.node_model.specs.Presidents.{checked, is_busy, is_clear, others_of, own_arrival, proposed_by, requests_of, with_act, with_proposals, word_answer}
use Rattle.node_model.specs.Requests.{is_idle, numbered, waiting_with}
use Rattle.node_model.specs.Seats.{coordinator_of, is_in, is_member, record_of, session_of, version_of}
use Rattle.node_model.specs.Updates.{commits_now, is_of_member}
use Rattle.node_model.specs.declared.cluster.Cluster.{Cluster}
use Rattle.node_model.specs.declared.presidency.Presidency.{Presidency}
use Rattle.node_model.specs.declared.seat.Seat.{Seat}
use Rattle.node_model.specs.declared.seat.Seat.TheVariants.{Forming, Member}
use Rattle.node_model.specs.declared.node.UpNode.{UpNode}
use Rattle.proposals.specs.Arrivals.{arrival_of, with_arrival}
use Rattle.proposals.specs.Proposing.{goes_again, is_prepared, prepared_by}
use Rattle.proposals.specs.State.{State, first_in, kept_at}
use Rattle.proposals.specs.declared.arrived.Arrival.{Arrival}
use Rattle.proposals.specs.declared.arrived.Arrival.TheVariants.{New, Waits as Waits_already, Answered as Answered_last, Past}
use Rattle.proposals.specs.declared.arrived.Arrived.{Arrived}
use Rattle.proposals.specs.declared.arrived.Kept.{Kept}
use Rattle.proposals.specs.declared.arrived.Proposed.{Proposed}
use Rattle.request_queue.specs.Queue as queue
use Rattle.request_queue.specs.Queue.{found, is_full, next_number, oldest}
use Rattle.request_queue.specs.declared.request.Request.{Request}
use Rattle.rg_props.specs.Lookups.{named}
use Rattle.rgm_member.specs.Orders.{answer_to, outcome_in}
use Rattle.rgm_member.specs.Probes.{probed}
use Rattle.rgm_member.specs.declared.carried.Carried.{Carried}
use Rattle.rgm_member.specs.declared.carried.Carried.TheVariants as carried
use Rattle.rgm_member.specs.declared.probed.Probed.{Probed}
use Rattle.rgm_member.specs.declared.probed.Probed.TheVariants as probe
use Rattle.rgm_president.specs.Decisions as decisions
use Rattle.rgm_state.specs.Outcomes as order
use Rattle.status_report.specs.declared.command_entry.Answer.{Answer}
use Rattle.status_report.specs.declared.command_entry.Answer.TheVariants as answer
use Rattle.update_words.specs.Words.{ask_words_of, words_of}
use Rattle.wire.specs.declared.message.Body.{Body}
use Rattle.wire.specs.declared.message.Body.TheVariants as body
use Rattle.wire.specs.declared.message.Install.{Install}
use Rattle.wire.specs.declared.message.Message.{Message}
use Rattle.wire.specs.declared.message.Order.{Order}
use Rattle.refinement.specs.Courses.{Course, joined}
use Rattle.refinement.specs.Courses.Course.{Acts, Falls, Keeps, Stops}
use Rattle.refinement.specs.Cuts as cuts
use Rattle.refinement.specs.Doings.{Act, Change, acted, changed}
use Rattle.refinement.specs.Doings.Act.{Accepts, Gives, Goes_on, Makes, Minds, Queues, Spreads, Takes, Writes}
use Rattle.refinement.specs.Doings.Change.{Admits, Commits, Counts, Distrusts, Installs, Promises, Sits}
use Rattle.refinement.specs.Ties.{Delivered}
use Rattle.run_history.specs.Guards.{AtAct, AtChange, AtTo, AtWrite, Hand, IsPlainBody, MadeAt, hand_by}

-- neither a request to seize nor how a seizing ended
abbrev pub IsQuietBody : Body → Type 0
IsQuietBody (body.SeizeQuorum e members d) = ⊥
IsQuietBody (body.SeizeData e members d) = ⊥
IsQuietBody (body.Seized e d r) = ⊥
IsQuietBody _ = Unit {0}

abbrev pub QuietChange : Change → Type 0
QuietChange (Counts a k s i) = ⊥
QuietChange (Distrusts d) = ⊥
QuietChange (Admits at command a d) = ⊥
QuietChange _ = Unit {0}

abbrev pub QuietAct : Act → Type 0
QuietAct (Goes_on a k) = ⊥
QuietAct (Queues a d kind) = ⊥
QuietAct (Accepts kind e members d) = ⊥
QuietAct (Takes at command a) = ⊥
QuietAct (Writes to b) = IsQuietBody b
QuietAct (Spreads receivers b) = IsPlainBody b
QuietAct (Makes change) = MadeAt change
QuietAct _ = Unit {0}

abbrev pub Quiet : Course → Type 0
Quiet Stops = Unit {0}
Quiet (Acts a rest) = QuietAct a × Quiet rest
Quiet (Keeps change rest) = QuietChange change × Quiet rest
Quiet (Falls why) = Unit {0}

quiet_write : (told : Delivered) (h : Hand) (x : UpNode) (to : ℕ) (b : Body) → IsQuietBody b → AtWrite told h x to b
quiet_write told h x to (body.SeizeQuorum e members d) q = absurd q
quiet_write told h x to (body.SeizeData e members d) q = absurd q
quiet_write told h x to (body.Seized e d r) q = absurd q
quiet_write told h x to _ q = tt

quiet_act : (me : ℕ) (told : Delivered) (h : Hand) (x : UpNode) (a : Act) → QuietAct a → AtAct me told h x a
quiet_act me told h x (Goes_on a k) q = absurd q
quiet_act me told h x (Queues a d kind) q = absurd q
quiet_act me told h x (Accepts kind e members d) q = absurd q
quiet_act me told h x (Takes at command a) q = absurd q
quiet_act me told h x (Writes to b) q = quiet_write told h x to b q
quiet_act me told h x (Spreads receivers b) q = q
quiet_act me told h x (Makes change) q = q
quiet_act me told h x _ q = tt

quiet_change : (x : UpNode) (ch : Change) → QuietChange ch → AtChange x ch
quiet_change x (Counts a k s i) q = absurd q
quiet_change x (Distrusts d) q = absurd q
quiet_change x (Admits at command a d) q = absurd q
quiet_change x _ q = tt

pub quiet_to : (c : Cluster) (me : ℕ) (told : Delivered) (P : Hand → UpNode → Type 0) (h : Hand) (x : UpNode) (k : Course) → Quiet k → ((g : Hand) (y : UpNode) → P g y) → AtTo c me told P h x k
quiet_to c me told P h x Stops q p = p h x
quiet_to c me told P h x (Acts a rest) q p = (quiet_act me told h x a q.0, quiet_to c me told P (hand_by h a) (acted c me x a) rest q.1 p)
quiet_to c me told P h x (Keeps change rest) q p = (quiet_change x change q.0, quiet_to c me told P h (changed c me x change) rest q.1 p)
quiet_to c me told P h x (Falls why) q p = tt

pub quiet_joined : (c : Cluster) (me : ℕ) (x : UpNode) (k : Course) (next : UpNode → Course) → Quiet k → ((y : UpNode) → Quiet (next y)) → Quiet (joined c me x k next)
quiet_joined c me x Stops next q n = n x
quiet_joined c me x (Acts a rest) next q n = (q.0, quiet_joined c me (acted c me x a) rest next q.1 n)
quiet_joined c me x (Keeps change rest) next q n = (q.0, quiet_joined c me (changed c me x change) rest next q.1 n)
quiet_joined c me x (Falls why) next q n = tt

-- The president decides.

deciding_by : (c : Cluster) (me : ℕ) (x : UpNode) (o : Option Presidency) → Quiet (cuts.deciding_by_course c me x o)
deciding_by c me x None = tt
deciding_by c me x (Some p) =
    if_either Quiet (may_order p.groups) (cuts.decided_course me x p (decisions.decision (in_force c x) x.second (is_held_up p) p.groups)) Stops (tt, (tt, tt)) tt

pub deciding : (c : Cluster) (me : ℕ) (x : UpNode) → Quiet (cuts.deciding_course c me x)
deciding c me x = deciding_by c me x x.presidency

-- Requests at their president.

answering : (c : Cluster) (me : ℕ) (x : UpNode) (p : Presidency) (a : Arrived) (told : Answer) → Quiet (cuts.answering_course c me x p a told)
answering c me x p a told = (tt, (tt, deciding c me (cuts.left_answered me x p a told)))

acknowledged : (c : Cluster) (me : ℕ) (x : UpNode) (p : Presidency) (a : Arrived) (text : List ℕ) → Quiet (cuts.acknowledged_course c me x p a text)
acknowledged c me x p a text = (tt, (tt, (tt, deciding c me (changed c me x (cuts.acks_of c me x p a text)))))

acknowledging_text : (c : Cluster) (me : ℕ) (x : UpNode) (p : Presidency) (o : Option Arrived) (text : Option (List ℕ)) → Quiet (cuts.acknowledging_text_course c me x p o text)
acknowledging_text c me x p (Some a) (Some text) = acknowledged c me x p a text
acknowledging_text c me x p None text = tt
acknowledging_text c me x p (Some a) None = tt

acknowledging_by : (c : Cluster) (me : ℕ) (x : UpNode) (o : Option Presidency) → Quiet (cuts.acknowledging_by_course c me x o)
acknowledging_by c me x None = tt
acknowledging_by c me x (Some p) = acknowledging_text c me x p (first_in p.proposals.arrived) (record_of x).entries.pending

acknowledging : (c : Cluster) (me : ℕ) (x : UpNode) → Quiet (cuts.acknowledging_course c me x)
acknowledging c me x = acknowledging_by c me x x.presidency

proposing : (c : Cluster) (me : ℕ) (x : UpNode) (p : Presidency) (text : List ℕ) → Quiet (cuts.proposing_course c me x p text)
proposing c me x p text =
    (tt, (tt, if_either Quiet (others_of me x == 0) (cuts.acknowledging_course c me (proposed_by c me x p text)) Stops (acknowledging c me (proposed_by c me x p text)) tt))

acting : (c : Cluster) (me : ℕ) (x : UpNode) (p : Presidency) (a : Arrived) (ask : Ask) → Quiet (cuts.acting_course c me x p a ask)
acting c me x p a ask =
    if_either Quiet (may_order p.groups) (Acts (Gives _) (cuts.answering_course c me x (with_act c me x p a ask) a answer.Ok)) Stops
    (tt, answering c me x (with_act c me x p a ask) a answer.Ok) tt

taken_as : (c : Cluster) (me : ℕ) (x : UpNode) (p : Presidency) (a : Arrived) (r : Result Accepted CheckError) → Quiet (cuts.taken_as_course c me x p a r)
taken_as c me x p a (Ok (accepted.Change u)) = proposing c me x p (words_of u)
taken_as c me x p a (Ok (accepted.Act ask)) = acting c me x p a ask
taken_as c me x p a (Ok (accepted.Query q)) = answering c me x p a answer.Ok
taken_as c me x p a (Err (because.Refused r)) = answering c me x p a (answer.Refused r)
taken_as c me x p a (Err because.NoMemory) = tt

taken : (c : Cluster) (me : ℕ) (x : UpNode) (p : Presidency) (a : Arrived) (r : Result wanted.Request WordError) → Quiet (cuts.taken_course c me x p a r)
taken c me x p a (Ok (asked.Change u)) =
    if_either Quiet (is_busy p.groups) Stops (cuts.taken_as_course c me x p a (checked c x p (wish.Change u))) tt (taken_as c me x p a (checked c x p (wish.Change u)))
taken c me x p a (Ok (asked.Act ask)) =
    if_either Quiet (is_busy p.groups && is_clear ask) Stops (cuts.taken_as_course c me x p a (checked c x p (wish.Act ask))) tt (taken_as c me x p a (checked c x p (wish.Act ask)))
taken c me x p a (Err e) = answering c me x p a (word_answer e)

turn_of : (c : Cluster) (me : ℕ) (x : UpNode) (p : Presidency) (proposed : Option Proposed) (o : Option Arrived) → Quiet (cuts.turn_of_course c me x p proposed o)
turn_of c me x p None (Some a) = taken c me x p a (request_of (version_of c) a.text)
turn_of c me x p None None = tt
turn_of c me x p (Some proposed) first = tt

turn_by : (c : Cluster) (me : ℕ) (x : UpNode) (o : Option Presidency) → Quiet (cuts.turn_by_course c me x o)
turn_by c me x None = tt
turn_by c me x (Some p) = turn_of c me x p p.proposals.proposed (first_in p.proposals.arrived)

turns : (c : Cluster) (me : ℕ) (x : UpNode) (k : ℕ) → Quiet (cuts.turns_course c me x k)
turns c me x zero = tt
turns c me x (suc k) = quiet_joined c me x (cuts.turns_course c me x k) (cuts.one_turn_course c me) (turns c me x k) (λ y. turn_by c me y y.presidency)

handling : (c : Cluster) (me : ℕ) (x : UpNode) → Quiet (cuts.handling_course c me x)
handling c me x = turns c me x (requests_of x x.presidency)

-- A request comes.

kept_again : (x : UpNode) (from : ℕ) (o : Option Kept) → Quiet (cuts.kept_again_course x from o)
kept_again x from None = tt
kept_again x from (Some k) = (tt, tt)

arrived : (c : Cluster) (me : ℕ) (x : UpNode) (p : Presidency) (a : Arrived) (how : Arrival) → Quiet (cuts.arrived_course c me x p a how)
arrived c me x p a New = (tt, handling c me (with_proposals x p (with_arrival p.proposals a New)))
arrived c me x p a Waits_already = tt
arrived c me x p a Answered_last = kept_again x a.from (kept_at p.proposals.answers a.from)
arrived c me x p a Past = tt

arriving : (c : Cluster) (me : ℕ) (x : UpNode) (p : Presidency) (a : Arrived) → Quiet (cuts.arriving_course c me x p a)
arriving c me x p a = arrived c me x p a (arrival_of p.proposals a.from a.number)

requested : (c : Cluster) (me : ℕ) (x : UpNode) (from number : ℕ) (text : List ℕ) (o : Option Presidency) → Quiet (cuts.requested_course c me x from number text o)
requested c me x from number text None = tt
requested c me x from number text (Some p) = arriving c me x p (record { from = from; number = number; text = text })

asked_at : (c : Cluster) (me : ℕ) (x : UpNode) (from e number : ℕ) (text : List ℕ) → Quiet (cuts.asked_course c me x from e number text)
asked_at c me x from e number text =
    if_either Quiet (is_of_member x from e) (cuts.requested_course c me x from number text x.presidency) Stops (requested c me x from number text x.presidency) tt

-- Requests at the node that asks.

request_to : (x : UpNode) (r : Request) (o : Option ℕ) → Quiet (cuts.request_to_course x r o)
request_to x r None = tt
request_to x r (Some president) = (tt, tt)

asking_of : (c : Cluster) (me : ℕ) (x : UpNode) (r : Request) (o : Option Presidency) → Quiet (cuts.asking_of_course c me x r o)
asking_of c me x r None = request_to x r (coordinator_of x)
asking_of c me x r (Some p) = arriving c me x p (own_arrival me r)

asking_for : (c : Cluster) (me : ℕ) (x : UpNode) (o : Option Request) → Quiet (cuts.asking_for_course c me x o)
asking_for c me x None = tt
asking_for c me x (Some r) = asking_of c me x r x.presidency

asking : (c : Cluster) (me : ℕ) (x : UpNode) → Quiet (cuts.asking_course c me x)
asking c me x = asking_for c me x (oldest x.requests)

-- A command.

asking_if : (alone : Bool) (c : Cluster) (me : ℕ) (x : UpNode) → Quiet (cuts.asking_if_course alone c me x)
asking_if alone c me x = if_either Quiet alone (cuts.asking_course c me x) Stops (asking c me x) tt

waiting : (c : Cluster) (me : ℕ) (x : UpNode) (number : ℕ) (text : List ℕ) → Quiet (cuts.waiting_course c me x number text)
waiting c me x number text =
    if_either Quiet (is_full x.requests) (cuts.replying_course me number answer.QueueFull)
    (Acts (Minds _ x.presidency) (cuts.asking_if_course (is_idle x.requests.waiting) c me (waiting_with x number text)))
    (tt, tt) (tt, asking_if (is_idle x.requests.waiting) c me (waiting_with x number text))

elsewhere : (me number : ℕ) (o : Option ℕ) → Quiet (cuts.elsewhere_course me number o)
elsewhere me number None = tt
elsewhere me number (Some president) = (tt, tt)

query : (me : ℕ) (x : UpNode) (p : Presidency) (number : ℕ) (s : ConfigState) (r : Result Accepted CheckError) → Quiet (cuts.query_course me x p number s r)
query me x p number s (Ok (accepted.Query q)) = (tt, (tt, tt))
query me x p number s (Ok (accepted.Change u)) = tt
query me x p number s (Ok (accepted.Act ask)) = tt
query me x p number s (Err (because.Refused r)) = (tt, tt)
query me x p number s (Err because.NoMemory) = tt

queried : (c : Cluster) (me : ℕ) (x : UpNode) (number : ℕ) (question : AdminCommand) (o : Option Presidency) → Quiet (cuts.queried_course c me x number question o)
queried c me x number question None = elsewhere me number (coordinator_of x)
queried c me x number question (Some p) =
    if_either Quiet (is_full x.requests) (cuts.replying_course me number answer.QueueFull) (cuts.query_course me x p number (in_force c x) (checked c x p question))
    (tt, tt) (query me x p number (in_force c x) (checked c x p question))

commanded : (c : Cluster) (me : ℕ) (x : UpNode) (number : ℕ) (w : AdminCommand) → Quiet (cuts.commanded_course c me x number w)
commanded c me x number (wish.Change u) = waiting c me x number (words_of u)
commanded c me x number (wish.Act a) = waiting c me x number (ask_words_of a)
commanded c me x number (wish.Status q) = queried c me x number (wish.Status q) x.presidency
commanded c me x number (wish.Rows table) = queried c me x number (wish.Rows table) x.presidency

worded : (c : Cluster) (me : ℕ) (x : UpNode) (number : ℕ) (r : Result AdminCommand WordError) → Quiet (cuts.worded_course c me x number r)
worded c me x number (Err e) = (tt, tt)
worded c me x number (Ok command) =
    if_either Quiet (is_member x.seat) (cuts.commanded_course c me x number command) (cuts.replying_course me number answer.NotMember) (commanded c me x number command) (tt, tt)

pub command : (c : Cluster) (me : ℕ) (x : UpNode) (words : List ℕ) → Quiet (cuts.command_course c me x words)
command c me x words = (tt, (tt, worded c me (numbered x) (next_number x.requests) (command_of (version_of c) words)))

-- The president's answer.

replied_to : (c : Cluster) (me : ℕ) (x : UpNode) (number : ℕ) (told : Answer) (o : Option Request) → Quiet (cuts.replied_to_course c me x number told o)
replied_to c me x number told None = tt
replied_to c me x number told (Some r) = (tt, (tt, asking c me (record x { requests = queue.answered x.requests number })))

replied : (c : Cluster) (me : ℕ) (x : UpNode) (number : ℕ) (o : Option Answer) → Quiet (cuts.replied_course c me x number o)
replied c me x number None = tt
replied c me x number (Some told) = replied_to c me x number told (found x.requests.waiting number)

reply : (c : Cluster) (me : ℕ) (x : UpNode) (e number : ℕ) (told : Option Answer) → Quiet (cuts.reply_course c me x e number told)
reply c me x e number told = if_either Quiet (is_member x.seat && is_in x e) (cuts.replied_course c me x number told) Stops (replied c me x number told) tt

-- Updates.

preparing : (from e place : ℕ) (s : NodeState) (text : List ℕ) (p : Prepared) → Quiet (cuts.preparing_course from e place s text p)
preparing from e place s text Taken = (tt, (tt, tt))
preparing from e place s text Already = (tt, tt)
preparing from e place s text (Gap k) = tt

prepare : (x : UpNode) (from e place : ℕ) (text : List ℕ) (seat : Seat) → Quiet (cuts.prepare_course x from e place text seat)
prepare x from e place text (Forming s) = tt
prepare x from e place text (Member s) =
    if_either Quiet (is_in x e) (cuts.preparing_course from e place s text (answer_for _ place)) Stops (preparing from e place s text (answer_for _ place)) tt

prepared_all : (c : Cluster) (me : ℕ) (x : UpNode) (p : Presidency) → Quiet (cuts.prepared_all_course c me x p)
prepared_all c me x p =
    if_either Quiet (is_prepared p.proposals) (joined c me x (cuts.acknowledging_course c me x) (cuts.handling_course c me)) Stops
    (quiet_joined c me x (cuts.acknowledging_course c me x) (cuts.handling_course c me) (acknowledging c me x) (λ y. handling c me y)) tt

prepared_at : (c : Cluster) (me : ℕ) (x : UpNode) (from place : ℕ) (o : Option Presidency) → Quiet (cuts.prepared_at_course c me x from place o)
prepared_at c me x from place None = tt
prepared_at c me x from place (Some p) =
    let s : State = prepared_by p.proposals from place in
    (tt, prepared_all c me (with_proposals x p s) (record p { proposals = s }))

prepared : (c : Cluster) (me : ℕ) (x : UpNode) (from e place : ℕ) → Quiet (cuts.prepared_course c me x from e place)
prepared c me x from e place =
    if_either Quiet (is_of_member x from e) (cuts.prepared_at_course c me x from place x.presidency) Stops (prepared_at c me x from place x.presidency) tt

commit : (x : UpNode) (e place : ℕ) (seat : Seat) → Quiet (cuts.commit_course x e place seat)
commit x e place (Forming s) = tt
commit x e place (Member s) = if_either Quiet (is_in x e && commits_now s place) (Keeps (Commits s) Stops) Stops (tt, tt) tt

-- Orders.

done_at : (c : Cluster) (me : ℕ) (x : UpNode) (from number : ℕ) (outcome : Outcome) (o : Option Presidency) → Quiet (cuts.done_at_course c me x from number outcome o)
done_at c me x from number outcome None = tt
done_at c me x from number outcome (Some p) =
    if_either Quiet (order.is_due p.groups.view from number) _ Stops (
      tt,
      quiet_joined c me (record x { presidency = Some (with_ended c x p from number outcome) })
          (cuts.deciding_course c me (record x { presidency = Some (with_ended c x p from number outcome) })) (cuts.handling_course c me)
          (deciding c me (record x { presidency = Some (with_ended c x p from number outcome) })) (λ y. handling c me y),
    ) tt

done : (c : Cluster) (me : ℕ) (x : UpNode) (from e number : ℕ) (outcome : Outcome) → Quiet (cuts.done_course c me x from e number outcome)
done c me x from e number outcome =
    if_either Quiet (is_of_member x from e) (cuts.done_at_course c me x from number outcome x.presidency) Stops (done_at c me x from number outcome x.presidency) tt

carrying : (c : Cluster) (me : ℕ) (x : UpNode) (o : Order) (how : Carried) → Quiet (cuts.carrying_course c me x o how)
carrying c me x o how = (tt, if_either Quiet (is_last c x o how) _ _ tt (tt, tt))

order_answered : (from : ℕ) (o : Order) (how : Carried) (x : UpNode) → Quiet (cuts.order_answered_course from o how x)
order_answered from o carried.Old x = tt
order_answered from o (carried.Called outcome) x = (tt, tt)
order_answered from o carried.Cleared x = (tt, tt)
order_answered from o (carried.Kept outcome) x = (tt, tt)

obeying : (c : Cluster) (me : ℕ) (x : UpNode) (from : ℕ) (o : Order) (how : Carried) → Quiet (cuts.obeying_course c me x from o how)
obeying c me x from o how =
    quiet_joined c me x (cuts.carrying_course c me x o how) (cuts.order_answered_course from o how) (carrying c me x o how) (λ y. order_answered from o how y)

order_at : (c : Cluster) (me : ℕ) (outcome : Outcome) (x : UpNode) (from : ℕ) (o : Order) → Quiet (cuts.order_course c me outcome x from o)
order_at c me outcome x from o =
    if_either Quiet (is_member x.seat && is_in x o.epoch) (cuts.obeying_course c me x from o (answer_to x.worker o outcome)) Stops (obeying c me x from o (answer_to x.worker o outcome)) tt

own_turn : (c : Cluster) (me : ℕ) (outcome : Outcome) (x : UpNode) (o : Option Order) → Quiet (cuts.own_turn_course c me outcome x o)
own_turn c me outcome x None = tt
own_turn c me outcome x (Some o) =
    let how : Carried = answer_to x.worker o outcome in
    quiet_joined c me x (cuts.carrying_course c me x o how) (cuts.own_done_course c me o how) (carrying c me x o how)
    (λ y. done_at c me y me o.number (outcome_in how) y.presidency)

-- A tick.

prepares : (x : UpNode) (p : Option Proposed) (text : Option (List ℕ)) (rest : Course) → Quiet rest → Quiet (cuts.prepares_course x p text rest)
prepares x (Some p) (Some text) rest q = (tt, q)
prepares x None text rest q = q
prepares x (Some p) None rest q = q

prepares_again : (x : UpNode) (o : Option Presidency) (rest : Course) → Quiet rest → Quiet (cuts.prepares_again_course x o rest)
prepares_again x None rest q = q
prepares_again x (Some p) rest q =
    if_either Quiet (goes_again p.proposals) (cuts.prepares_course x p.proposals.proposed (record_of x).entries.pending rest) rest
    (prepares x p.proposals.proposed (record_of x).entries.pending rest q) q

going_again : (c : Cluster) (me : ℕ) (before x : UpNode) → Quiet (cuts.going_again_course c me before x)
going_again c me before x = prepares_again before before.presidency (Acts (Gives (orders_again before x)) (cuts.deciding_course c me x)) (tt, deciding c me x)

pub governing : (c : Cluster) (me : ℕ) (outcome : Outcome) (before x : UpNode) → Quiet (cuts.governing_course c me outcome before x)
governing c me outcome before x =
    quiet_joined c me x (cuts.own_turn_course c me outcome x (own_order me x)) (cuts.going_again_course c me before) (own_turn c me outcome x (own_order me x)) (λ y. going_again c me before y)

-- A monitor reports.

asking_this : (c : Cluster) (me : ℕ) (x : UpNode) (o : Option Ask) → Quiet (cuts.asking_this_course c me x o)
asking_this c me x None = tt
asking_this c me x (Some ask) =
    if_either Quiet (is_member x.seat && not (is_full x.requests)) (Acts (Minds _ x.presidency) (cuts.asking_if_course (is_idle x.requests.waiting) c me (monitor_asked x ask))) Stops
    (tt, asking_if (is_idle x.requests.waiting) c me (monitor_asked x ask)) tt

reporting : (c : Cluster) (me : ℕ) (x : UpNode) (r : List ℕ) (p : Probed) → Quiet (cuts.reporting_course c me x r p)
reporting c me x r probe.NoMonitor = tt
reporting c me x r probe.Good = (tt, (tt, tt))
reporting c me x r (probe.Failed a) = (tt, (tt, asking_this c me (reported x c r (probe.Failed a)) (asked_by a r)))

pub report : (c : Cluster) (me : ℕ) (x : UpNode) (r : List ℕ) (good : Bool) → Quiet (cuts.report_course c me x r good)
report c me x r good = reporting c me x r (probed x.worker (own_config c x) r good x.second)

-- A client's request.

serving_at : (s : ConfigState) (x : UpNode) (p : Presidency) (name : List ℕ) (client port : ℕ) (o : Option Address) → Quiet (cuts.serving_at_course s x p name client port o)
serving_at s x p name client port None = tt
serving_at s x p name client port (Some a) = (tt, (tt, tt))

serving_by : (c : Cluster) (x : UpNode) (name : List ℕ) (client port : ℕ) (o : Option Presidency) → Quiet (cuts.serving_by_course c x name client port o)
serving_by c x name client port None = tt
serving_by c x name client port (Some p) = serving_at (in_force c x) x p name client port (named (in_force c x).addresses name)

pub client : (c : Cluster) (x : UpNode) (name : List ℕ) (client port : ℕ) → Quiet (cuts.client_course c x name client port)
client c x name number port = serving_by c x name number port x.presidency

-- Messages.

heartbeat : (me : ℕ) (x : UpNode) (from session : ℕ) (member : Bool) → Quiet (cuts.heartbeat_course me x from session member)
heartbeat me x from session member = if_either Quiet (awaits_start me x from session member) (cuts.writing from (body.Start (session_of x))) Stops (tt, tt) tt

collect : (x : UpNode) (from p : ℕ) → Quiet (cuts.collect_course x from p)
collect x from p =
    if_either Quiet (nat_lt _ p) (Keeps (Promises p) (cuts.writing from _)) _ (tt, (tt, tt))
    (if_either Quiet (is_in x p) (cuts.writing from _) (cuts.writing from _) (tt, tt) (tt, tt))

pub readying : (c : Cluster) (x : UpNode) (to : ℕ) → Quiet (cuts.readying_course c x to)
readying c x to = if_either Quiet _ Stops (cuts.writing to _) tt (tt, tt)

installed : (c : Cluster) (me : ℕ) (x : UpNode) (from : ℕ) (i : Install) (seat : Seat) → Quiet (cuts.installed_course c me x from i seat)
installed c me x from i (Member s) = readying c x from
installed c me x from i (Forming s) =
    if_either Quiet (s.saved.installed == i.epoch) (cuts.readying_course c x from) (Keeps (Installs s i) (cuts.readying_course c (changed c me x (Installs s i)) from)) (readying c x from)
    (tt, readying c (changed c me x (Installs s i)) from)

install : (c : Cluster) (me : ℕ) (x : UpNode) (from : ℕ) (i : Install) → Quiet (cuts.install_course c me x from i)
install c me x from i = if_either Quiet (is_in x i.epoch) (cuts.installed_course c me x from i x.seat) (cuts.writing from _) (installed c me x from i x.seat) (tt, tt)

start : (e : ℕ) (seat : Seat) → Quiet (cuts.start_course e seat)
start e (Member s) = tt
start e (Forming s) =
    if_either Quiet _ (cuts.kept_if (is_some s.saved.entries.pending) (Sits s e) Stops) Stops
    (if_either Quiet (is_some s.saved.entries.pending) (Keeps (Sits s e) Stops) (Acts (Makes (Sits s e)) Stops) (tt, tt) (tt, tt)) tt

notice : (x : UpNode) (e newest : ℕ) → Quiet (cuts.notice_course x e newest)
notice x e newest = if_either Quiet (is_in x e) (Falls _) Stops tt tt

-- a message that is no answer to the node's attempt, and no request to seize
abbrev pub IsOther : Body → Type 0
IsOther (body.Promise e installed members valid flagged committed pending) = ⊥
IsOther (body.Nack e promised) = ⊥
IsOther (body.SeizeQuorum e members d) = ⊥
IsOther (body.SeizeData e members d) = ⊥
IsOther (body.Seized e d ended) = ⊥
IsOther (body.Ready e devices told) = ⊥
IsOther _ = Unit {0}

pub other : (c : Cluster) (me : ℕ) (outcome : Outcome) (x : UpNode) (from : ℕ) (m : Message) (b : Body) → IsOther b → Quiet (cuts.body_course c me outcome x from m b)
other c me outcome x from m (body.Heartbeat promised session member) is = heartbeat me x from session member
other c me outcome x from m (body.Collect e members) is = collect x from e
other c me outcome x from m (body.Install i) is = install c me x from i
other c me outcome x from m (body.Start e) is = start e x.seat
other c me outcome x from m (body.Excluded e newest) is = notice x e newest
other c me outcome x from m (body.Prepare e place text) is = prepare x from e place text x.seat
other c me outcome x from m (body.Prepared e place) is = prepared c me x from e place
other c me outcome x from m (body.Commit e place) is = commit x e place x.seat
other c me outcome x from m (body.Order o) is = order_at c me outcome x from o
other c me outcome x from m (body.Done e number ended) is = done c me x from e number ended
other c me outcome x from m (body.Request e number text) is = asked_at c me x from e number text
other c me outcome x from m (body.Answer e number text) is = reply c me x e number (answer_in text)
other c me outcome x from m (body.Promise e installed members valid flagged committed pending) is = absurd is
other c me outcome x from m (body.Nack e promised) is = absurd is
other c me outcome x from m (body.SeizeQuorum e members d) is = absurd is
other c me outcome x from m (body.SeizeData e members d) is = absurd is
other c me outcome x from m (body.Seized e d ended) is = absurd is
other c me outcome x from m (body.Ready e devices told) is = absurd is
