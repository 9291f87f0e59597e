-- What a president does: requests come to it, are taken up one after another, and answered; an update is proposed, and acknowledged
-- once every member has prepared it.
use Rattle.std.specs.Prelude.{ℕ, zero, suc, ◌+◌, ◌==◌, ◌&&◌, min, Bool, true, false, List, [], ◌∷◌, map, length, Option, None, Some, Result, Ok, Err, if◌then◌else◌}
use Rattle.std.specs.List.{list_any}
use Rattle.admin_commands.specs.Answers.{answer_to}
use Rattle.admin_commands.specs.Records.{most_bytes}
use Rattle.admin_commands.specs.declared.accepted.Accepted.{Accepted}
use Rattle.admin_commands.specs.declared.accepted.Accepted.TheVariants as accepted
use Rattle.admin_commands.specs.declared.error.CheckError.{CheckError}
use Rattle.admin_commands.specs.declared.error.CheckError.TheVariants as because
use Rattle.admin_words.specs.Commands.{command_of, request_of}
use Rattle.admin_words.specs.declared.error.WordError.{WordError}
use Rattle.admin_words.specs.declared.error.WordError.TheVariants as word
use Rattle.admin_words.specs.declared.request.Request.TheVariants as asked
use Rattle.admin_words.specs.declared.request.Request as wanted
use Rattle.ccr_commit.specs.Entries.{all_committed, texts_of, with_next}
use Rattle.ccr_tables.specs.State.{ConfigState}
use Rattle.ccr_tables.specs.declared.command.AdminCommand.{AdminCommand}
use Rattle.ccr_tables.specs.declared.command.AdminCommand.TheVariants.{Change, Act, Status, Rows}
use Rattle.ccr_tables.specs.declared.update.Update.{Update}
use Rattle.ccr_tables.specs.declared.update.Update.TheVariants.{DeleteAddress}
use Rattle.cl_base.specs.Limits.{most_nodes}
use Rattle.cl_base.specs.Numbers.{numbers_to}
use Rattle.cl_base.specs.Sets.{set_without}
use Rattle.cl_base.specs.declared.command.Ask.{Ask}
use Rattle.cl_base.specs.declared.command.Ask.TheVariants.{Restart, Move, Remaster, Evacuate, Clear}
use Rattle.cl_base.specs.declared.command.Query.{Query}
use Rattle.cl_base.specs.declared.command.Query.TheVariants as query
use Rattle.cmm_member.specs.Lengths.{full_length}
use Rattle.cmm_member.specs.Nodes.{with_entries}
use Rattle.proposals.specs.Arrivals as arrivals
use Rattle.proposals.specs.Arrivals.{arrival_of, with_arrival}
use Rattle.proposals.specs.Proposing.{proposing}
use Rattle.proposals.specs.State.{State, first_in, kept_at}
use Rattle.proposals.specs.declared.arrived.Arrival.{Arrival}
use Rattle.proposals.specs.declared.arrived.Arrival.TheVariants.{New, Waits, Answered, Past}
use Rattle.proposals.specs.declared.arrived.Arrived.{Arrived}
use Rattle.proposals.specs.declared.arrived.Kept.{Kept}
use Rattle.proposals.specs.declared.arrived.Proposed.{Proposed}
use Rattle.group_lines.specs.Groups.{group_lines}
use Rattle.group_lines.specs.Resources.{resource_lines}
use Rattle.query_lines.specs.Lines.{quorum_lines, table_lines}
use Rattle.request_queue.specs.Queue as queue
use Rattle.request_queue.specs.Queue.{Queue, found, oldest}
use Rattle.request_queue.specs.declared.request.Request.{Request}
use Rattle.rg_view.specs.declared.orders.Outstanding.{Outstanding}
use Rattle.rgm_member.specs.Keeping.{kept_under}
use Rattle.rgm_president.specs.Acts.{with_ask, with_update}
use Rattle.rgm_president.specs.State.{PresidentState, next_order}
use Rattle.shared_address.specs.History.{without_address}
use Rattle.shared_address.specs.States.{AddressState}
use Rattle.status_report.specs.CommandLines.{reply_text}
use Rattle.status_report.specs.declared.command_entry.Answer.{Answer}
use Rattle.status_report.specs.declared.command_entry.Answer.TheVariants as answer
use Rattle.status_report.specs.declared.entry.Entry.TheVariants as entry
use Rattle.status_report.specs.declared.status_entry.StatusEntry.{StatusEntry}
use Rattle.status_report.specs.declared.update_entry.UpdateEntry.TheVariants as update
use Rattle.update_words.specs.Words.{words_of}
use Rattle.wire.specs.declared.message.Body.{Body}
use Rattle.wire.specs.declared.message.Body.TheVariants as body
use Rattle.wire.specs.declared.message.Order.{Order}
use Rattle.node_model.specs.declared.cluster.Cluster.{Cluster}
use Rattle.node_model.specs.declared.node.UpNode.{UpNode}
use Rattle.node_model.specs.declared.output.Output.{Output}
use Rattle.node_model.specs.declared.output.Output.TheVariants.{Tells, Sends}
use Rattle.node_model.specs.declared.presidency.Presidency.{Presidency}
use Rattle.node_model.specs.Configurations.{in_force, own_config}
use Rattle.node_model.specs.Deciding.{all_sent, deciding, may_order, orders_sent}
use Rattle.node_model.specs.Entries.{answered_line, answering, keeping, replying, telling}
use Rattle.node_model.specs.Plans.{Plan, and_then}
use Rattle.node_model.specs.Plans.Plan.{Stays, Says}
use Rattle.node_model.specs.Seats.{record_of, session_of, state_of, version_of, with_node}

-- how long its record may become, in bytes, without what one more update adds
abbrev pub length_of : Cluster → UpNode → ℕ
length_of c x = min (full_length c.nodes c.devices (texts_of (record_of x).entries)) most_bytes

-- the president accepts the command, or refuses it
abbrev pub checked : Cluster → UpNode → Presidency → AdminCommand → Result Accepted CheckError
checked c x p command = answer_to (in_force c x) p.groups.view (record_of x).members p.held (length_of c x) command

-- one message to each node of a set, ascending
unfoldable pub sent_to : ℕ → Body → List Output
sent_to receivers b = map (λ n. Sends n b) (numbers_to receivers most_nodes)

-- the other members
abbrev pub others_of : ℕ → UpNode → ℕ
others_of me x = set_without (record_of x).members me

abbrev pub with_proposals : UpNode → Presidency → State → UpNode
with_proposals x p s = record x { presidency = Some (record p { proposals = s }) }

-- The first request is answered. One of the president's own waits no longer, and then the next of its own has come.

abbrev pub own_arrival : ℕ → Request → Arrived
own_arrival me r = record { from = me; number = r.number; text = r.text }

abbrev pub with_own : ℕ → State → Option Request → State
with_own me s None = s
with_own me s (Some r) = with_arrival s (own_arrival me r) (arrival_of s me r.number)

abbrev pub own_answered : ℕ → UpNode → Presidency → State → Queue → UpNode
own_answered me x p s q = record x { requests = q; presidency = Some (record p { proposals = with_own me s (oldest q) }) }

abbrev pub answered_by : ℕ → UpNode → Presidency → Arrived → Answer → UpNode
answered_by me x p a told =
    if a.from == me then own_answered me x p (arrivals.answered p.proposals (reply_text told)) (queue.answered x.requests a.number)
    else with_proposals x p (arrivals.answered p.proposals (reply_text told))

-- the answer is told here, or sent to the node that asked
abbrev pub own_line : ℕ → Answer → Option Request → List Output
own_line me told None = []
own_line me told (Some r) = if r.told then Tells (answered_line me r.number told) ∷ [] else []

abbrev pub answer_given : ℕ → UpNode → Arrived → Answer → List Output
answer_given me x a told =
    if a.from == me then own_line me told (found x.requests.waiting a.number)
    else Sends a.from (body.Answer (session_of x) a.number (reply_text told)) ∷ []

-- .. and then the president decides
abbrev pub answering_first : Cluster → ℕ → UpNode → Presidency → Arrived → Answer → Plan
answering_first c me x p a told = Says (answer_given me x a told) (deciding c me (answered_by me x p a told))

-- Every member has prepared what is pending: it is committed and saved, told, and its request is answered; the president takes it up,
-- and decides.

abbrev pub committing : UpNode → UpNode
committing x = with_node x (with_entries (state_of x.seat) (all_committed (record_of x).entries))

abbrev pub last_place : UpNode → ℕ
last_place x = length (texts_of (record_of x).entries)

-- of an address that is deleted the president keeps nothing
abbrev pub balanced_under : Update → List (List ℕ × AddressState) → List (List ℕ × AddressState)
balanced_under (DeleteAddress name) balancer = without_address balancer name
balanced_under _ balancer = balancer

-- the president takes up an update that is committed
abbrev pub taken_up : ConfigState → Presidency → Result AdminCommand WordError → Presidency
taken_up s p (Ok (Change u)) = record p { groups = with_update s u p.groups; balancer = balanced_under u p.balancer }
taken_up s p (Ok (Act a)) = p
taken_up s p (Ok (Status q)) = p
taken_up s p (Ok (Rows name)) = p
taken_up s p (Err e) = p

abbrev pub committed_by : Cluster → ℕ → UpNode → Presidency → Arrived → List ℕ → UpNode
committed_by c me x p a text =
    answered_by me (committing x) (taken_up (in_force c (committing x)) p (command_of (version_of c) text)) a answer.Ok

abbrev pub acknowledging_so : Cluster → ℕ → UpNode → Arrived → List ℕ → UpNode → Plan
acknowledging_so c me x a text y =
    keeping me y
    (telling (entry.Update (update.Acknowledged (session_of x) (last_place x) text))
    (Says (sent_to (others_of me x) (body.Commit (session_of x) (last_place x)))
    (Says (answer_given me x a answer.Ok) (deciding c me y))))

abbrev pub acknowledging_text : Cluster → ℕ → UpNode → Presidency → Option Arrived → Option (List ℕ) → Plan
acknowledging_text c me x p (Some a) (Some text) = acknowledging_so c me x a text (committed_by c me x p a text)
acknowledging_text c me x p None text = Stays x
acknowledging_text c me x p (Some a) None = Stays x

abbrev pub acknowledging_by : Cluster → ℕ → UpNode → Option Presidency → Plan
acknowledging_by c me x None = Stays x
acknowledging_by c me x (Some p) = acknowledging_text c me x p (first_in p.proposals.arrived) (record_of x).entries.pending

abbrev pub acknowledging : Cluster → ℕ → UpNode → Plan
acknowledging c me x = acknowledging_by c me x x.presidency

-- An update is proposed: it is told, saved as pending, and sent to the other members; of what it deletes nothing is kept. A president
-- alone acknowledges it at once.

abbrev pub next_place : UpNode → ℕ
next_place x = last_place x + 1

abbrev pub with_pending : UpNode → List ℕ → UpNode
with_pending x text = with_node x (with_entries (state_of x.seat) (with_next (record_of x).entries text))

-- it keeps nothing of what its own configuration lacks
abbrev pub tidied : Cluster → UpNode → UpNode
tidied c x = record x { worker = kept_under (own_config c x) x.worker }

abbrev pub proposed_by : Cluster → ℕ → UpNode → Presidency → List ℕ → UpNode
proposed_by c me x p text = with_proposals (tidied c (with_pending x text)) p (proposing p.proposals (next_place x) (others_of me x))

abbrev pub proposing_so : Cluster → ℕ → UpNode → List ℕ → UpNode → Plan
proposing_so c me x text y =
    telling (entry.Update (update.Proposed (session_of x) (next_place x) text))
    (keeping me y
    (Says (sent_to (others_of me x) (body.Prepare (session_of x) (next_place x) text))
    (if others_of me x == 0 then acknowledging c me y else Stays y)))

-- What is no update is done at once. To clear is an order, which comes before the answer.

-- the second that counts: of the president's own requests that at which they were asked
abbrev pub second_of : Option Request → ℕ → ℕ
second_of None now = now
second_of (Some r) now = r.second

abbrev pub asked_at : ℕ → UpNode → Arrived → ℕ
asked_at me x a = if a.from == me then second_of (found x.requests.waiting a.number) x.second else x.second

abbrev pub orders_for : PresidentState → Ask → List (ℕ × Order)
orders_for p (Clear r n) = (n, next_order p r None) ∷ []
orders_for p (Restart r) = []
orders_for p (Move r) = []
orders_for p (Remaster g) = []
orders_for p (Evacuate n) = []

abbrev pub with_act : Cluster → ℕ → UpNode → Presidency → Arrived → Ask → Presidency
with_act c me x p a ask = record p {
  groups = with_ask (in_force c x) a.from ask (asked_at me x a) p.groups;
  sent = all_sent me p.sent (orders_for p.groups ask);
}

abbrev pub acting : Cluster → ℕ → UpNode → Presidency → Arrived → Ask → Plan
acting c me x p a ask =
    if may_order p.groups
    then Says (orders_sent me (orders_for p.groups ask)) (answering_first c me x (with_act c me x p a ask) a answer.Ok)
    else Stays x

-- A request is taken up.

abbrev pub taken_as : Cluster → ℕ → UpNode → Presidency → Arrived → Result Accepted CheckError → Plan
taken_as c me x p a (Ok (accepted.Change u)) = proposing_so c me x (words_of u) (proposed_by c me x p (words_of u))
taken_as c me x p a (Ok (accepted.Act ask)) = acting c me x p a ask
taken_as c me x p a (Ok (accepted.Query q)) = answering_first c me x p a answer.Ok
taken_as c me x p a (Err (because.Refused r)) = answering_first c me x p a (answer.Refused r)
taken_as c me x p a (Err because.NoMemory) = Stays x

-- what is wrong with words
abbrev pub word_answer : WordError → Answer
word_answer word.UnknownCommand = answer.UnknownCommand
word_answer word.MissingOperand = answer.MissingOperand
word_answer word.BadValue = answer.BadValue
word_answer word.NoMemory = answer.UnknownCommand

-- an update, and a clear, wait while an order is outstanding
abbrev pub is_outstanding : Option Outstanding → Bool
is_outstanding None = false
is_outstanding (Some o) = true

abbrev pub is_busy : PresidentState → Bool
is_busy p = list_any is_outstanding p.view.outstanding

abbrev pub is_clear : Ask → Bool
is_clear (Clear r n) = true
is_clear (Restart r) = false
is_clear (Move r) = false
is_clear (Remaster g) = false
is_clear (Evacuate n) = false

abbrev pub taken : Cluster → ℕ → UpNode → Presidency → Arrived → Result wanted.Request WordError → Plan
taken c me x p a (Ok (asked.Change u)) = if is_busy p.groups then Stays x else taken_as c me x p a (checked c x p (Change u))
taken c me x p a (Ok (asked.Act ask)) = if is_busy p.groups && is_clear ask then Stays x else taken_as c me x p a (checked c x p (Act ask))
taken c me x p a (Err e) = answering_first c me x p a (word_answer e)

-- Turn by turn: the first request is taken up where no update is proposed.

abbrev pub turn_of : Cluster → ℕ → UpNode → Presidency → Option Proposed → Option Arrived → Plan
turn_of c me x p None (Some a) = taken c me x p a (request_of (version_of c) a.text)
turn_of c me x p None None = Stays x
turn_of c me x p (Some proposed) first = Stays x

abbrev pub turn_by : Cluster → ℕ → UpNode → Option Presidency → Plan
turn_by c me x None = Stays x
turn_by c me x (Some p) = turn_of c me x p p.proposals.proposed (first_in p.proposals.arrived)

abbrev pub one_turn : Cluster → ℕ → UpNode → Plan
one_turn c me x = turn_by c me x x.presidency

abbrev pub turns : Cluster → ℕ → UpNode → ℕ → Plan
turns c me x zero = Stays x
turns c me x (suc k) = and_then (turns c me x k) (one_turn c me)

-- there are at most as many turns as requests
abbrev pub requests_of : UpNode → Option Presidency → ℕ
requests_of x None = 0
requests_of x (Some p) = length p.proposals.arrived + length x.requests.waiting

abbrev pub handling : Cluster → ℕ → UpNode → Plan
handling c me x = turns c me x (requests_of x x.presidency)

-- A request comes to the president: a new one waits for its turn; the last that was answered gets its answer again.

abbrev pub kept_again : UpNode → ℕ → Option Kept → Plan
kept_again x from None = Stays x
kept_again x from (Some k) = answering from (body.Answer (session_of x) k.number k.text) x

abbrev pub arrived_as : Cluster → ℕ → UpNode → Presidency → Arrived → Arrival → Plan
arrived_as c me x p a New = handling c me (with_proposals x p (with_arrival p.proposals a New))
arrived_as c me x p a Waits = Stays x
arrived_as c me x p a Answered = kept_again x a.from (kept_at p.proposals.answers a.from)
arrived_as c me x p a Past = Stays x

abbrev pub arriving : Cluster → ℕ → UpNode → Presidency → Arrived → Plan
arriving c me x p a = arrived_as c me x p a (arrival_of p.proposals a.from a.number)

-- A query is answered at once.

abbrev pub told_lines : List StatusEntry → List Output
told_lines lines = map (λ l. Tells (entry.Status l)) lines

abbrev pub query_lines : UpNode → Presidency → ConfigState → Query → List StatusEntry
query_lines x p s query.GroupStatus = group_lines s p.groups.view
query_lines x p s query.ResourceStatus = resource_lines s p.groups.view
query_lines x p s query.QuorumStatus = quorum_lines s.votes (record_of x).members p.held
query_lines x p s (query.Rows t) = table_lines s t

abbrev pub query_told : ℕ → UpNode → Presidency → ℕ → ConfigState → Result Accepted CheckError → Plan
query_told me x p number s (Ok (accepted.Query q)) = Says (told_lines (query_lines x p s q)) (replying me number answer.Ok x)
query_told me x p number s (Ok (accepted.Change u)) = Stays x
query_told me x p number s (Ok (accepted.Act ask)) = Stays x
query_told me x p number s (Err (because.Refused r)) = replying me number (answer.Refused r) x
query_told me x p number s (Err because.NoMemory) = Stays x

abbrev pub answering_query : Cluster → ℕ → UpNode → Presidency → ℕ → AdminCommand → Plan
answering_query c me x p number command = query_told me x p number (in_force c x) (checked c x p command)
