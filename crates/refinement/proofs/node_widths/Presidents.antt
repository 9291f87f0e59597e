-- What a president does has its widths.
use Rattle.std.specs.Prelude.{ℕ, zero, suc, ◌+◌, ◌≡◌, ◌==◌, ◌&&◌, List, [], ◌∷◌, Option, None, Some, IfSome, Result, Ok, Err}
use Rattle.std.proofs.Common.{refl}
use Rattle.admin_commands.specs.Answers.{refusal_in, rows_of, unless_refused}
use Rattle.admin_commands.specs.Asks.{refusal_of_ask}
use Rattle.admin_commands.specs.declared.accepted.Accepted.{Accepted}
use Rattle.admin_commands.specs.declared.accepted.Accepted.TheVariants as accepted
use Rattle.admin_commands.specs.declared.error.CheckError.{CheckError}
use Rattle.admin_commands.specs.declared.error.CheckError.TheVariants as because
use Rattle.admin_words.specs.Commands.{command_of, request_of}
use Rattle.admin_words.specs.declared.error.WordError.{WordError}
use Rattle.admin_words.specs.declared.request.Request.TheVariants as asked
use Rattle.admin_words.specs.declared.request.Request as wanted
use Rattle.ccr_commit.specs.Entries.{all_committed, with_next}
use Rattle.ccr_tables.specs.State.{ConfigState}
use Rattle.ccr_tables.specs.Updates.{table_named}
use Rattle.ccr_tables.specs.declared.command.AdminCommand.{AdminCommand}
use Rattle.ccr_tables.specs.declared.command.AdminCommand.TheVariants.{Change, Act, Status, Rows}
use Rattle.ccr_tables.specs.declared.update.Update.{Update}
use Rattle.cl_base.specs.declared.command.Ask.{Ask}
use Rattle.cl_base.specs.declared.command.Ask.TheVariants.{Restart, Move, Remaster, Evacuate, Clear}
use Rattle.cl_base.specs.declared.command.Table.{Table}
use Rattle.cl_base.specs.declared.refusal.Refusal.{Refusal}
use Rattle.attempt_laws.proofs.Walk.{if_with}
use Rattle.cmm_attempt.proofs.Basics.{if_either}
use Rattle.cmm_member.specs.Nodes.{with_entries}
use Rattle.proposals.specs.Arrivals as arrivals
use Rattle.proposals.specs.Arrivals.{arrival_of, with_arrival}
use Rattle.proposals.specs.Proposing.{proposing}
use Rattle.proposals.specs.State.{State, first_in, kept_at}
use Rattle.proposals.specs.declared.arrived.Arrival.{Arrival}
use Rattle.proposals.specs.declared.arrived.Arrival.TheVariants.{New, Waits, Answered, Past}
use Rattle.proposals.specs.declared.arrived.Arrived.{Arrived}
use Rattle.proposals.specs.declared.arrived.Kept.{Kept}
use Rattle.proposals.specs.declared.arrived.Proposed.{Proposed}
use Rattle.request_queue.specs.Queue as queue
use Rattle.request_queue.specs.Queue.{Queue, found, oldest}
use Rattle.request_queue.specs.declared.request.Request.{Request}
use Rattle.rgm_president.specs.State.{PresidentState}
use Rattle.status_report.specs.CommandLines.{reply_text}
use Rattle.status_report.specs.declared.command_entry.Answer.{Answer}
use Rattle.status_report.specs.declared.command_entry.Answer.TheVariants as answer
use Rattle.status_report.specs.declared.status_entry.StatusEntry.{StatusEntry}
use Rattle.update_words.specs.Words.{words_of}
use Rattle.wire.specs.declared.message.Body.TheVariants as body
use Rattle.wire.specs.Spelling.{IsNode, IsWord}
use Rattle.node_model.specs.declared.cluster.Cluster.{Cluster}
use Rattle.node_model.specs.declared.node.UpNode.{UpNode}
use Rattle.node_model.specs.declared.output.Output.TheVariants.{Sends}
use Rattle.node_model.specs.declared.presidency.Presidency.{Presidency}
use Rattle.node_model.specs.Presidents as presidents
use Rattle.node_model.specs.Configurations.{in_force}
use Rattle.node_model.specs.Deciding.{may_order}
use Rattle.node_model.specs.Presidents.{answer_given, answered_by, asked_at, checked, committed_by, committing, is_busy, is_clear, last_place, length_of, next_place, orders_for, others_of, own_answered, own_line, proposed_by, query_lines, requests_of, sent_to, taken_up, tidied, told_lines, with_act, with_pending, with_proposals, word_answer}
use Rattle.node_model.specs.Plans.Plan.{Stays}
use Rattle.node_model.specs.Seats.{record_of, session_of, state_of, version_of}
use Rattle.refinement.specs.node_widths.Widths.{AllFit, ArrivedFits, KeptFits, PresidencyFits, ProposalsFit, QueueFits, UpFits}
use Rattle.refinement.specs.node_widths.Plans.{PlanFits}
use Rattle.refinement.proofs.node_widths.Clears.{AskFits, CommandFits, RequestFits, asked_fits}
use Rattle.refinement.proofs.node_widths.Deciding.{decides, orders_sent_fits}
use Rattle.refinement.proofs.node_widths.Nodes.{answers, committed_fits, either_fits, next_entry_fits, replies, sent_to_fits, then_fits, tidied_fits, with_requests_fits, with_state_fits}
use Rattle.refinement.proofs.node_widths.Orders.{OrdersFit, next_fits, with_ask_fits, with_update_fits}
use Rattle.refinement.proofs.node_widths.Queues.{answered_fits, answered_queue_fits, first_fits, kept_fits, oldest_fits, proposing_fits, with_arrival_fits, with_own_fits}
use Rattle.refinement.proofs.node_widths.Rooms.{room_for}
use Rattle.refinement.proofs.node_widths.Sets.{nodes_without}

-- The node after it.

pub with_proposals_fits : (c : Cluster) (n : ℕ) (x : UpNode) (p : Presidency) (s : State) → ProposalsFit s → PresidencyFits p → UpFits c n x → UpFits c n (with_proposals x p s)
with_proposals_fits c n x p s f office h = with_requests_fits c n x x.requests (Some (record p { proposals = s })) h.asked (f, office.1, office.2) h

own_answered_fits : (c : Cluster) (n : ℕ) (x : UpNode) (p : Presidency) (s : State) (q : Queue) → IsNode n → ProposalsFit s → QueueFits q → PresidencyFits p → UpFits c n x
    → UpFits c n (own_answered n x p s q)
own_answered_fits c n x p s q is f g office h =
    with_requests_fits c n x q (Some (record p { proposals = _ })) g (with_own_fits n s (oldest q) is (oldest_fits q.waiting g.1) f, office.1, office.2) h

answered_by_fits : (c : Cluster) (n : ℕ) (x : UpNode) (p : Presidency) (a : Arrived) (told : Answer) → IsNode n → PresidencyFits p → UpFits c n x → UpFits c n (answered_by n x p a told)
answered_by_fits c n x p a told is office h =
    let s : State = arrivals.answered p.proposals (reply_text told) in
    let f : ProposalsFit s = answered_fits p.proposals (reply_text told) office.0 in
    if_either (UpFits c n) (a.from == n) (own_answered n x p s (queue.answered x.requests a.number)) (with_proposals x p s)
    (own_answered_fits c n x p s (queue.answered x.requests a.number) is f (answered_queue_fits x.requests a.number h.asked) office h)
    (with_proposals_fits c n x p s f office h)

-- What it tells and sends.

pub own_line_fits : (n : ℕ) (told : Answer) (o : Option Request) → AllFit (own_line n told o)
own_line_fits n told None = tt
own_line_fits n told (Some r) = if_either AllFit r.told _ [] tt tt

answer_given_fits : (n : ℕ) (x : UpNode) (a : Arrived) (told : Answer) → ArrivedFits a → IsWord (session_of x) → AllFit (answer_given n x a told)
answer_given_fits n x a told f session =
    if_either AllFit (a.from == n) (own_line n told (found x.requests.waiting a.number)) (Sends a.from (body.Answer (session_of x) a.number (reply_text told)) ∷ [])
    (own_line_fits n told (found x.requests.waiting a.number)) (f.0.0, (session, f.1), tt)

-- The first request is answered.

answers_first : (c : Cluster) (n : ℕ) (x : UpNode) (p : Presidency) (a : Arrived) (told : Answer) → IsNode n → ArrivedFits a → PresidencyFits p → UpFits c n x
    → PlanFits c n (presidents.answering_first c n x p a told)
answers_first c n x p a told is f office h =
    (answer_given_fits n x a told f h.state.session, decides c n (answered_by n x p a told) (answered_by_fits c n x p a told is office h))

-- An update is acknowledged.

taken_up_fits : (s : ConfigState) (p : Presidency) (r : Result AdminCommand WordError) → PresidencyFits p → PresidencyFits (taken_up s p r)
taken_up_fits s p (Ok (Change u)) h = (h.0, h.1, with_update_fits s u p.groups h.2)
taken_up_fits s p (Ok (Act a)) h = h
taken_up_fits s p (Ok (Status q)) h = h
taken_up_fits s p (Ok (Rows name)) h = h
taken_up_fits s p (Err e) h = h

acknowledges : (c : Cluster) (n : ℕ) (x : UpNode) (p : Presidency) (o : Option Arrived) (pending : Option (List ℕ)) → IsNode n → IfSome o ArrivedFits → PresidencyFits p → UpFits c n x
    → PlanFits c n (presidents.acknowledging_text c n x p o pending)
acknowledges c n x p (Some a) (Some text) is f office h =
    let k : UpFits c n (committing x) = with_state_fits c n x (with_entries (state_of x.seat) (all_committed (record_of x).entries)) (committed_fits (state_of x.seat) h.state) h in
    let s : ConfigState = in_force c (committing x) in
    let q : Presidency = taken_up s p (command_of (version_of c) text) in
    let y : UpNode = committed_by c n x p a text in
    let l : UpFits c n y = answered_by_fits c n (committing x) q a answer.Ok is (taken_up_fits s p (command_of (version_of c) text) office) k in
    let sent : AllFit (sent_to (others_of n x) (body.Commit (session_of x) (last_place x))) =
    sent_to_fits (others_of n x) (body.Commit (session_of x) (last_place x)) (h.state.session, h.state.record_fits.places) in
    (l.state.record_fits, (tt, (tt, (sent, (answer_given_fits n x a answer.Ok f h.state.session, decides c n y l)))))
acknowledges c n x p None text is f office h = h
acknowledges c n x p (Some a) None is f office h = h

acknowledges_by : (c : Cluster) (n : ℕ) (x : UpNode) (o : Option Presidency) → IsNode n → IfSome o PresidencyFits → UpFits c n x → PlanFits c n (presidents.acknowledging_by c n x o)
acknowledges_by c n x None is office h = h
acknowledges_by c n x (Some p) is office h = acknowledges c n x p (first_in p.proposals.arrived) (record_of x).entries.pending is (first_fits p.proposals.arrived office.0.0) office h

pub acknowledges_so : (c : Cluster) (n : ℕ) (x : UpNode) → IsNode n → UpFits c n x → PlanFits c n (presidents.acknowledging c n x)
acknowledges_so c n x is h = acknowledges_by c n x x.presidency is h.presides h

-- An update is proposed.

proposed_by_fits : (c : Cluster) (n : ℕ) (x : UpNode) (p : Presidency) (text : List ℕ) → IsWord (next_place x) → PresidencyFits p → UpFits c n x → UpFits c n (proposed_by c n x p text)
proposed_by_fits c n x p text small office h =
    let k : UpFits c n (with_pending x text) =
    with_state_fits c n x (with_entries (state_of x.seat) (with_next (record_of x).entries text)) (next_entry_fits (state_of x.seat) text small h.state) h in
    with_proposals_fits c n (tidied c (with_pending x text)) p (proposing p.proposals (next_place x) (others_of n x))
    (proposing_fits p.proposals (next_place x) (others_of n x) small (nodes_without (record_of x).members n h.state.record_fits.members) office.0) office
    (tidied_fits c n (with_pending x text) k)

proposes : (c : Cluster) (n : ℕ) (x : UpNode) (text : List ℕ) (y : UpNode) → IsNode n → IsWord (next_place x) → UpFits c n x → UpFits c n y → PlanFits c n (presidents.proposing_so c n x text y)
proposes c n x text y is small h k =
    let sent : AllFit (sent_to (others_of n x) (body.Prepare (session_of x) (next_place x) text)) =
    sent_to_fits (others_of n x) (body.Prepare (session_of x) (next_place x) text) (h.state.session, small) in
    (tt, (k.state.record_fits, (tt, (sent, either_fits c n (others_of n x == 0) (presidents.acknowledging c n y) (Stays y) (acknowledges_so c n y is k) k))))

-- What is asked for.

orders_for_fits : (p : PresidentState) (ask : Ask) → AskFits ask → IsWord p.epoch → IsWord (p.given + 1) → OrdersFit (orders_for p ask)
orders_for_fits p (Clear r n) f epoch small = ((f.1, epoch, small, f.0), tt)
orders_for_fits p (Restart r) f epoch small = tt
orders_for_fits p (Move r) f epoch small = tt
orders_for_fits p (Remaster g) f epoch small = tt
orders_for_fits p (Evacuate n) f epoch small = tt

acts : (c : Cluster) (n : ℕ) (x : UpNode) (p : Presidency) (a : Arrived) (ask : Ask) → IsNode n → AskFits ask → ArrivedFits a → PresidencyFits p → UpFits c n x
    → PlanFits c n (presidents.acting c n x p a ask)
acts c n x p a ask is whole f office h =
    let q : Presidency = with_act c n x p a ask in
    if_with (PlanFits c n) (may_order p.groups) (may_order p.groups) _ (Stays x) refl
    (λ may. (
      orders_sent_fits n (orders_for p.groups ask) (orders_for_fits p.groups ask whole office.2.0 (next_fits p.groups.given may)),
      answers_first c n x q a answer.Ok is f (office.0, office.1, with_ask_fits (in_force c x) a.from ask (asked_at n x a) p.groups whole may office.2) h,
    )) (λ e. h)

-- A request is taken up.

abbrev AcceptedFits : Result Accepted CheckError → Type 0
AcceptedFits (Ok (accepted.Change u)) = Unit {0}
AcceptedFits (Ok (accepted.Act ask)) = AskFits ask
AcceptedFits (Ok (accepted.Query q)) = Unit {0}
AcceptedFits (Err e) = Unit {0}

change_accepted : (o : Option Refusal) (u : Update) → AcceptedFits (unless_refused o (accepted.Change u))
change_accepted None u = tt
change_accepted (Some refusal) u = tt

ask_accepted : (o : Option Refusal) (ask : Ask) → AskFits ask → AcceptedFits (unless_refused o (accepted.Act ask))
ask_accepted None ask h = h
ask_accepted (Some refusal) ask h = tt

rows_accepted : (o : Option Table) (name : List ℕ) → AcceptedFits (rows_of o name)
rows_accepted None name = tt
rows_accepted (Some table) name = tt

-- what is accepted is what was asked for
checked_fits : (c : Cluster) (x : UpNode) (p : Presidency) (command : AdminCommand) → CommandFits command → AcceptedFits (checked c x p command)
checked_fits c x p (Change u) h = change_accepted (refusal_in (in_force c x) p.groups.view (record_of x).members p.held (length_of c x) u) u
checked_fits c x p (Act ask) h = ask_accepted (refusal_of_ask (in_force c x) p.groups.view ask) ask h
checked_fits c x p (Status q) h = tt
checked_fits c x p (Rows name) h = rows_accepted (table_named (in_force c x).groups.version name) name

takes_as : (c : Cluster) (n : ℕ) (x : UpNode) (p : Presidency) (a : Arrived) (r : Result Accepted CheckError) → IsNode n → ((u : Update) → r ≡ Ok (accepted.Change u) → IsWord (next_place x))
    → AcceptedFits r → ArrivedFits a → PresidencyFits p → UpFits c n x → PlanFits c n (presidents.taken_as c n x p a r)
takes_as c n x p a (Ok (accepted.Change u)) is room whole f office h =
    proposes c n x (words_of u) (proposed_by c n x p (words_of u)) is (room u refl) h (proposed_by_fits c n x p (words_of u) (room u refl) office h)
takes_as c n x p a (Ok (accepted.Act ask)) is room whole f office h = acts c n x p a ask is whole f office h
takes_as c n x p a (Ok (accepted.Query q)) is room whole f office h = answers_first c n x p a answer.Ok is f office h
takes_as c n x p a (Err (because.Refused r)) is room whole f office h = answers_first c n x p a (answer.Refused r) is f office h
takes_as c n x p a (Err because.NoMemory) is room whole f office h = h

takes_checked : (c : Cluster) (n : ℕ) (x : UpNode) (p : Presidency) (a : Arrived) (command : AdminCommand) → IsNode n → CommandFits command → ArrivedFits a → PresidencyFits p → UpFits c n x
    → PlanFits c n (presidents.taken_as c n x p a (checked c x p command))
takes_checked c n x p a command is whole f office h =
    takes_as c n x p a (checked c x p command) is (λ u e. room_for c x p command u e) (checked_fits c x p command whole) f office h

takes : (c : Cluster) (n : ℕ) (x : UpNode) (p : Presidency) (a : Arrived) (r : Result wanted.Request WordError) → IsNode n → RequestFits r → ArrivedFits a → PresidencyFits p → UpFits c n x
    → PlanFits c n (presidents.taken c n x p a r)
takes c n x p a (Ok (asked.Change u)) is whole f office h =
    either_fits c n (is_busy p.groups) (Stays x) _ h (takes_checked c n x p a (Change u) is tt f office h)
takes c n x p a (Ok (asked.Act ask)) is whole f office h =
    either_fits c n (is_busy p.groups && is_clear ask) (Stays x) _ h (takes_checked c n x p a (Act ask) is whole f office h)
takes c n x p a (Err e) is whole f office h = answers_first c n x p a (word_answer e) is f office h

-- Turn by turn.

turn_fits : (c : Cluster) (n : ℕ) (x : UpNode) (p : Presidency) (proposed : Option Proposed) (first : Option Arrived) → IsNode n → IfSome first ArrivedFits → PresidencyFits p → UpFits c n x
    → PlanFits c n (presidents.turn_of c n x p proposed first)
turn_fits c n x p None (Some a) is f office h = takes c n x p a (request_of (version_of c) a.text) is (asked_fits (version_of c) a.text) f office h
turn_fits c n x p None None is f office h = h
turn_fits c n x p (Some proposed) first is f office h = h

turn_by_fits : (c : Cluster) (n : ℕ) (x : UpNode) (o : Option Presidency) → IsNode n → IfSome o PresidencyFits → UpFits c n x → PlanFits c n (presidents.turn_by c n x o)
turn_by_fits c n x None is office h = h
turn_by_fits c n x (Some p) is office h = turn_fits c n x p p.proposals.proposed (first_in p.proposals.arrived) is (first_fits p.proposals.arrived office.0.0) office h

turns_fit : (c : Cluster) (n : ℕ) (x : UpNode) (k : ℕ) → IsNode n → UpFits c n x → PlanFits c n (presidents.turns c n x k)
turns_fit c n x zero is h = h
turns_fit c n x (suc k) is h =
    then_fits c n (presidents.turns c n x k) (presidents.one_turn c n) (turns_fit c n x k is h) (λ y l. turn_by_fits c n y y.presidency is l.presides l)

pub handles : (c : Cluster) (n : ℕ) (x : UpNode) → IsNode n → UpFits c n x → PlanFits c n (presidents.handling c n x)
handles c n x is h = turns_fit c n x (requests_of x x.presidency) is h

-- A request comes.

kept_again_fits : (c : Cluster) (n : ℕ) (x : UpNode) (from : ℕ) (o : Option Kept) → IsNode from → KeptFits o → UpFits c n x → PlanFits c n (presidents.kept_again x from o)
kept_again_fits c n x from None is f h = h
kept_again_fits c n x from (Some k) is f h = answers c n from (body.Answer (session_of x) k.number k.text) x is.0 (h.state.session, f) h

arrives_as : (c : Cluster) (n : ℕ) (x : UpNode) (p : Presidency) (a : Arrived) (k : Arrival) → IsNode n → ArrivedFits a → PresidencyFits p → UpFits c n x
    → PlanFits c n (presidents.arrived_as c n x p a k)
arrives_as c n x p a New is f office h =
    handles c n (with_proposals x p (with_arrival p.proposals a New)) is
    (with_proposals_fits c n x p (with_arrival p.proposals a New) (with_arrival_fits p.proposals a New f office.0) office h)
arrives_as c n x p a Waits is f office h = h
arrives_as c n x p a Answered is f office h = kept_again_fits c n x a.from (kept_at p.proposals.answers a.from) f.0 (kept_fits p.proposals.answers a.from office.0.2) h
arrives_as c n x p a Past is f office h = h

pub arrives : (c : Cluster) (n : ℕ) (x : UpNode) (p : Presidency) (a : Arrived) → IsNode n → ArrivedFits a → PresidencyFits p → UpFits c n x → PlanFits c n (presidents.arriving c n x p a)
arrives c n x p a is f office h = arrives_as c n x p a (arrival_of p.proposals a.from a.number) is f office h

-- A query.

lines_fit : (lines : List StatusEntry) → AllFit (told_lines lines)
lines_fit [] = tt
lines_fit (l ∷ lines) = lines_fit lines

told_fits : (c : Cluster) (n : ℕ) (x : UpNode) (p : Presidency) (number : ℕ) (s : ConfigState) (r : Result Accepted CheckError) → UpFits c n x
    → PlanFits c n (presidents.query_told n x p number s r)
told_fits c n x p number s (Ok (accepted.Query q)) h = (lines_fit (query_lines x p s q), replies c n number answer.Ok x h)
told_fits c n x p number s (Ok (accepted.Change u)) h = h
told_fits c n x p number s (Ok (accepted.Act ask)) h = h
told_fits c n x p number s (Err (because.Refused r)) h = replies c n number (answer.Refused r) x h
told_fits c n x p number s (Err because.NoMemory) h = h

pub answers_query : (c : Cluster) (n : ℕ) (x : UpNode) (p : Presidency) (number : ℕ) (command : AdminCommand) → UpFits c n x → PlanFits c n (presidents.answering_query c n x p number command)
answers_query c n x p number command h = told_fits c n x p number (in_force c x) (checked c x p command) h
