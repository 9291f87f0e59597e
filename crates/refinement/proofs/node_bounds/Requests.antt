-- What a node sends for commands, for its requests, and for updates.
use Rattle.std.specs.Prelude.{ℕ, ◌≤◌, ◌&&◌, true, List, [], length, Option, None, Some, IfSome, Result, Ok, Err}
use Rattle.std.proofs.Common.{refl, arith}
use Rattle.admin_words.specs.Commands.{command_of}
use Rattle.admin_words.specs.declared.error.WordError.{WordError}
use Rattle.ccr_commit.specs.Entries.{answer_for, texts_of}
use Rattle.ccr_commit.specs.declared.entries.Prepared.{Prepared}
use Rattle.ccr_commit.specs.declared.entries.Prepared.TheVariants.{Taken, Already, Gap}
use Rattle.ccr_tables.specs.declared.command.AdminCommand.{AdminCommand}
use Rattle.ccr_tables.specs.declared.command.AdminCommand.TheVariants.{Change, Act, Status, Rows}
use Rattle.cmm_attempt.proofs.Basics.{if_either}
use Rattle.attempt_laws.proofs.Walk.{if_with}
use Rattle.cmm_member.specs.Nodes.{NodeState}
use Rattle.proposals.specs.Proposing.{goes_again, is_prepared, prepared_by}
use Rattle.proposals.specs.State.{State}
use Rattle.proposals.specs.declared.arrived.Proposed.{Proposed}
use Rattle.request_queue.specs.Queue as queue
use Rattle.request_queue.specs.Queue.{answered, found, is_full, next_number, oldest}
use Rattle.request_queue.specs.declared.request.Request.{Request}
use Rattle.status_report.specs.declared.command_entry.Answer.{Answer}
use Rattle.status_report.specs.declared.command_entry.Answer.TheVariants as answer
use Rattle.update_words.specs.Words.{ask_words_of, words_of}
use Rattle.wire.specs.declared.message.Body.TheVariants as body
use Rattle.wire.specs.Spelling.{IsNode}
use Rattle.node_model.specs.declared.cluster.Cluster.{Cluster}
use Rattle.node_model.specs.declared.node.UpNode.{UpNode}
use Rattle.node_model.specs.declared.presidency.Presidency.{Presidency}
use Rattle.node_model.specs.declared.seat.Seat.{Seat}
use Rattle.node_model.specs.declared.seat.Seat.TheVariants.{Forming, Member}
use Rattle.node_model.specs.Entries.{answering}
use Rattle.node_model.specs.Plans.Plan.{Stays}
use Rattle.node_model.specs.Presidents as presidents
use Rattle.node_model.specs.Presidents.{own_arrival, own_line, with_proposals, word_answer}
use Rattle.node_model.specs.Requests as requests
use Rattle.node_model.specs.Requests.{is_idle, numbered, waiting_with}
use Rattle.node_model.specs.Seats.{coordinator_of, is_in, is_member, record_of, session_of, version_of}
use Rattle.node_model.specs.Updates as updates
use Rattle.node_model.specs.Updates.{commits_now, committed_so, is_of_member, prepared_so}
use Rattle.refinement.specs.node_bounds.Bounded.{OfficeIsBounded, UpIsBounded}
use Rattle.refinement.specs.node_bounds.Sends.{sends_of}
use Rattle.refinement.proofs.node_bounds.Counts.{own_quiet, sent_few}
use Rattle.refinement.proofs.node_bounds.Plans.{Costs, answers, costs_less, either_costs, keeps, replies, stays, tells, then_costs}
use Rattle.refinement.proofs.node_bounds.Presidents.{acknowledges_costs, answers_query, arrives, handles, with_proposals_bounded}
use Rattle.refinement.proofs.node_bounds.Queues.{answered_few, with_request_few}

-- The oldest request goes.

goes_to : (x : UpNode) (r : Request) (o : Option ℕ) → UpIsBounded x → Costs 3296 (requests.request_to x r o)
goes_to x r None h = stays x 3296 h
goes_to x r (Some president) h = answers president (body.Request (session_of x) r.number r.text) x 3296 (omega arith) h

asks_of : (c : Cluster) (n : ℕ) (x : UpNode) (r : Request) (o : Option Presidency) → IsNode n → IfSome o OfficeIsBounded → UpIsBounded x → Costs 3296 (requests.asking_of c n x r o)
asks_of c n x r None is office h = goes_to x r (coordinator_of x) h
asks_of c n x r (Some p) is office h = arrives c n x p (own_arrival n r) is is office h

asks_for : (c : Cluster) (n : ℕ) (x : UpNode) (o : Option Request) → IsNode n → UpIsBounded x → Costs 3296 (requests.asking_for c n x o)
asks_for c n x None is h = stays x 3296 h
asks_for c n x (Some r) is h = asks_of c n x r x.presidency is h.presides h

pub asks : (c : Cluster) (n : ℕ) (x : UpNode) → IsNode n → UpIsBounded x → Costs 3296 (requests.asking c n x)
asks c n x is h = asks_for c n x (oldest x.requests) is h

-- A request waits, where there is room.

queues : (c : Cluster) (n : ℕ) (x : UpNode) (number : ℕ) (text : List ℕ) → IsNode n → UpIsBounded x → Costs 3296 (requests.queued c n x number text)
queues c n x number text is h =
    let y : UpNode = waiting_with x number text in
    if_with (Costs 3296) (is_full x.requests) (is_full x.requests) _ (requests.asking_if (is_idle x.requests.waiting) c n y) refl (λ full. replies n number answer.QueueFull x 3296 h)
    (λ room.
    let k : UpIsBounded y = record { own = h.own; few = with_request_few x.requests (record { number = number; text = text; told = true; second = x.second }) room; presides = h.presides } in
    either_costs (is_idle x.requests.waiting) (requests.asking c n y) (Stays y) 3296 (asks c n y is k) (stays y 3296 k))

-- A command.

goes_elsewhere : (n : ℕ) (x : UpNode) (number : ℕ) (o : Option ℕ) → UpIsBounded x → Costs 3296 (requests.elsewhere n x number o)
goes_elsewhere n x number None h = stays x 3296 h
goes_elsewhere n x number (Some president) h = replies n number (answer.Ask president) x 3296 h

queries : (c : Cluster) (n : ℕ) (x : UpNode) (number : ℕ) (query : AdminCommand) (o : Option Presidency) → UpIsBounded x → Costs 3296 (requests.queried c n x number query o)
queries c n x number query None h = goes_elsewhere n x number (coordinator_of x) h
queries c n x number query (Some p) h =
    either_costs (is_full x.requests) _ (presidents.answering_query c n x p number query) 3296 (replies n number answer.QueueFull x 3296 h)
    (costs_less (presidents.answering_query c n x p number query) 0 3296 (omega arith) (answers_query c n x p number query h))

commands : (c : Cluster) (n : ℕ) (x : UpNode) (number : ℕ) (command : AdminCommand) → IsNode n → UpIsBounded x → Costs 3296 (requests.commanded c n x number command)
commands c n x number (Change u) is h = queues c n x number (words_of u) is h
commands c n x number (Act a) is h = queues c n x number (ask_words_of a) is h
commands c n x number (Status q) is h = queries c n x number (Status q) x.presidency h
commands c n x number (Rows table) is h = queries c n x number (Rows table) x.presidency h

words : (c : Cluster) (n : ℕ) (x : UpNode) (number : ℕ) (r : Result AdminCommand WordError) → IsNode n → UpIsBounded x → Costs 3296 (requests.worded c n x number r)
words c n x number (Err e) is h = replies n number (word_answer e) x 3296 h
words c n x number (Ok command) is h =
    either_costs (is_member x.seat) (requests.commanded c n x number command) _ 3296 (commands c n x number command is h) (replies n number answer.NotMember x 3296 h)

pub command_costs : (c : Cluster) (n : ℕ) (x : UpNode) (text : List ℕ) → IsNode n → UpIsBounded x → Costs 3296 (requests.on_command c n x text)
command_costs c n x text is h =
    let k : UpIsBounded (numbered x) = record { own = h.own; few = h.few; presides = h.presides } in
    tells _ (requests.worded c n (numbered x) (next_number x.requests) (command_of (version_of c) text)) 3296 refl (words c n (numbered x) (next_number x.requests) (command_of (version_of c) text) is k)

-- An answer.

replied_costs : (c : Cluster) (n : ℕ) (x : UpNode) (number : ℕ) (told : Answer) (o : Option Request) → IsNode n → UpIsBounded x → Costs 3296 (requests.replied_to c n x number told o)
replied_costs c n x number told None is h = stays x 3296 h
replied_costs c n x number told (Some r) is h =
    let y : UpNode = record x { requests = answered x.requests number } in
    let k : UpIsBounded y = record { own = h.own; few = answered_few x.requests number h.few; presides = h.presides } in
    tells (own_line n told (Some r)) (requests.asking c n y) 3296 (own_quiet n told (Some r)) (asks c n y is k)

replied_as_costs : (c : Cluster) (n : ℕ) (x : UpNode) (number : ℕ) (o : Option Answer) → IsNode n → UpIsBounded x → Costs 3296 (requests.replied_as c n x number o)
replied_as_costs c n x number None is h = stays x 3296 h
replied_as_costs c n x number (Some told) is h = replied_costs c n x number told (found x.requests.waiting number) is h

pub reply_costs : (c : Cluster) (n : ℕ) (x : UpNode) (e number : ℕ) (told : Option Answer) → IsNode n → UpIsBounded x → Costs 3296 (requests.on_reply c n x e number told)
reply_costs c n x e number told is h = either_costs (is_member x.seat && is_in x e) (requests.replied_as c n x number told) (Stays x) 3296 (replied_as_costs c n x number told is h) (stays x 3296 h)

-- A member asks.

requested_costs : (c : Cluster) (n : ℕ) (x : UpNode) (from number : ℕ) (text : List ℕ) (o : Option Presidency) → IsNode n → IsNode from → IfSome o OfficeIsBounded → UpIsBounded x
    → Costs 3296 (updates.requested c n x from number text o)
requested_costs c n x from number text None is who office h = stays x 3296 h
requested_costs c n x from number text (Some p) is who office h = arrives c n x p (record { from = from; number = number; text = text }) is who office h

pub asked_costs : (c : Cluster) (n : ℕ) (x : UpNode) (from e number : ℕ) (text : List ℕ) → IsNode n → IsNode from → UpIsBounded x → Costs 3296 (updates.on_asked c n x from e number text)
asked_costs c n x from e number text is who h =
    either_costs (is_of_member x from e) (updates.requested c n x from number text x.presidency) (Stays x) 3296 (requested_costs c n x from number text x.presidency is who h.presides h) (stays x 3296 h)

-- An update is prepared.

prepares : (c : Cluster) (n : ℕ) (x : UpNode) (from e place : ℕ) (s : NodeState) (text : List ℕ) (a : Prepared) → UpIsBounded x → Costs 1 (updates.preparing c n x from e place s text a)
prepares c n x from e place s text Taken h =
    let y : UpNode = prepared_so c x s text in
    let k : UpIsBounded y = record { own = h.own; few = h.few; presides = h.presides } in
    keeps n y (answering from (body.Prepared e place) y) 1 (answers from (body.Prepared e place) y 1 (omega arith) k)
prepares c n x from e place s text Already h = answers from (body.Prepared e place) x 1 (omega arith) h
prepares c n x from e place s text (Gap k) h = stays x 1 h

pub prepare_costs : (c : Cluster) (n : ℕ) (x : UpNode) (from e place : ℕ) (text : List ℕ) (seat : Seat) → UpIsBounded x → Costs 1 (updates.on_prepare_as c n x from e place text seat)
prepare_costs c n x from e place text (Forming s) h = stays x 1 h
prepare_costs c n x from e place text (Member s) h =
    either_costs (is_in x e) (updates.preparing c n x from e place s text (answer_for (length (texts_of s.saved.entries)) place)) (Stays x) 1
    (prepares c n x from e place s text (answer_for (length (texts_of s.saved.entries)) place) h) (stays x 1 h)

-- All have prepared it.

prepared_all_costs : (c : Cluster) (n : ℕ) (x : UpNode) (p : Presidency) → IsNode n → UpIsBounded x → Costs 3361 (updates.prepared_all c n x p)
prepared_all_costs c n x p is h =
    either_costs (is_prepared p.proposals) _ (Stays x) 3361
    (then_costs (presidents.acknowledging c n x) (presidents.handling c n) 65 3296 (acknowledges_costs c n x is h) (λ y k. handles c n y is k)) (stays x 3361 h)

prepared_at_costs : (c : Cluster) (n : ℕ) (x : UpNode) (from place : ℕ) (o : Option Presidency) → IsNode n → IfSome o OfficeIsBounded → UpIsBounded x → Costs 3361 (updates.prepared_at c n x from place o)
prepared_at_costs c n x from place None is office h = stays x 3361 h
prepared_at_costs c n x from place (Some p) is office h =
    let s : State = prepared_by p.proposals from place in
    prepared_all_costs c n (with_proposals x p s) (record p { proposals = s }) is (with_proposals_bounded x p s office h)

pub prepared_costs : (c : Cluster) (n : ℕ) (x : UpNode) (from e place : ℕ) → IsNode n → UpIsBounded x → Costs 3361 (updates.on_prepared c n x from e place)
prepared_costs c n x from e place is h =
    either_costs (is_of_member x from e) (updates.prepared_at c n x from place x.presidency) (Stays x) 3361 (prepared_at_costs c n x from place x.presidency is h.presides h) (stays x 3361 h)

-- It is committed.

pub commit_costs : (n : ℕ) (x : UpNode) (e place : ℕ) (seat : Seat) → UpIsBounded x → Costs 0 (updates.on_commit_as n x e place seat)
commit_costs n x e place (Forming s) h = stays x 0 h
commit_costs n x e place (Member s) h =
    let y : UpNode = committed_so x s in
    let k : UpIsBounded y = record { own = h.own; few = h.few; presides = h.presides } in
    either_costs (is_in x e && commits_now s place) _ (Stays x) 0 (keeps n y (Stays y) 0 (stays y 0 k)) (stays x 0 h)

-- What goes again at a tick.

again_to : (x : UpNode) (r : Option Request) (o : Option ℕ) → sends_of (updates.request_again_to x r o) ≤ 1
again_to x (Some r) (Some president) = omega arith
again_to x None president = omega arith
again_to x (Some r) None = omega arith

again_by : (x : UpNode) (o : Option Presidency) → sends_of (updates.request_again_by x o) ≤ 1
again_by x None = if_either (λ os. sends_of os ≤ 1) (queue.goes_again x.requests) (updates.request_again_to x (oldest x.requests) (coordinator_of x)) [] (again_to x (oldest x.requests) (coordinator_of x)) (omega arith)
again_by x (Some p) = omega arith

pub request_again_few : (x : UpNode) → sends_of (updates.request_again x) ≤ 1
request_again_few x = again_by x x.presidency

prepares_of : (x : UpNode) (p : Option Proposed) (pending : Option (List ℕ)) → sends_of (updates.prepares_of x p pending) ≤ 32
prepares_of x (Some p) (Some text) = sent_few p.missing (body.Prepare (session_of x) p.place text)
prepares_of x None text = omega arith
prepares_of x (Some p) None = omega arith

prepares_by : (x : UpNode) (o : Option Presidency) → sends_of (updates.prepares_again_by x o) ≤ 32
prepares_by x None = omega arith
prepares_by x (Some p) =
    if_either (λ os. sends_of os ≤ 32) (goes_again p.proposals) (updates.prepares_of x p.proposals.proposed (record_of x).entries.pending) []
    (prepares_of x p.proposals.proposed (record_of x).entries.pending) (omega arith)

pub prepares_again_few : (x : UpNode) → sends_of (updates.prepares_again x) ≤ 32
prepares_again_few x = prepares_by x x.presidency
