-- What a node does with commands and with its requests has its widths.
use Rattle.std.specs.Prelude.{ℕ, ◌&&◌, true, List, Option, None, Some, IfSome, Result, Ok, Err}
use Rattle.admin_words.specs.Commands.{command_of}
use Rattle.admin_words.specs.declared.error.WordError.{WordError}
use Rattle.ccr_tables.specs.declared.command.AdminCommand.{AdminCommand}
use Rattle.ccr_tables.specs.declared.command.AdminCommand.TheVariants.{Change, Act, Status, Rows}
use Rattle.request_queue.specs.Queue.{answered, found, is_full, next_number, oldest, with_number, with_request}
use Rattle.request_queue.specs.declared.request.Request.{Request}
use Rattle.status_report.specs.declared.command_entry.Answer.{Answer}
use Rattle.status_report.specs.declared.command_entry.Answer.TheVariants as answer
use Rattle.update_words.specs.Words.{ask_words_of, words_of}
use Rattle.wire.specs.declared.message.Body.TheVariants as body
use Rattle.wire.specs.Spelling.{IsNode, IsWord}
use Rattle.node_model.specs.declared.cluster.Cluster.{Cluster}
use Rattle.node_model.specs.declared.node.UpNode.{UpNode}
use Rattle.node_model.specs.declared.presidency.Presidency.{Presidency}
use Rattle.node_model.specs.Plans.Plan.{Stays}
use Rattle.node_model.specs.Presidents.{own_arrival, word_answer}
use Rattle.node_model.specs.Requests as requests
use Rattle.node_model.specs.Requests.{is_idle, numbered, waiting_with}
use Rattle.node_model.specs.Seats.{coordinator_of, is_in, is_member, session_of, version_of}
use Rattle.refinement.specs.node_widths.Widths.{PresidencyFits, QueueFits, RequestFits, UpFits}
use Rattle.refinement.specs.node_widths.Plans.{PlanFits}
use Rattle.refinement.proofs.node_widths.Nodes.{answers, coordinator_is_node, either_fits, replies, with_requests_fits}
use Rattle.refinement.proofs.node_widths.Presidents.{answers_query, arrives, own_line_fits}
use Rattle.refinement.proofs.node_widths.Queues.{answered_queue_fits, numbered_fits, oldest_fits, with_request_fits}

-- The oldest request goes.

goes_to : (c : Cluster) (n : ℕ) (x : UpNode) (r : Request) (o : Option ℕ) → RequestFits r → IfSome o IsNode → UpFits c n x → PlanFits c n (requests.request_to x r o)
goes_to c n x r None f is h = h
goes_to c n x r (Some president) f is h = answers c n president (body.Request (session_of x) r.number r.text) x is.0 (h.state.session, f.0) h

asks_of : (c : Cluster) (n : ℕ) (x : UpNode) (r : Request) (o : Option Presidency) → IsNode n → RequestFits r → IfSome o PresidencyFits → UpFits c n x → PlanFits c n (requests.asking_of c n x r o)
asks_of c n x r None is f office h = goes_to c n x r (coordinator_of x) f (coordinator_is_node x) h
asks_of c n x r (Some p) is f office h = arrives c n x p (own_arrival n r) is (is, f.0) office h

asks_for : (c : Cluster) (n : ℕ) (x : UpNode) (o : Option Request) → IsNode n → IfSome o RequestFits → UpFits c n x → PlanFits c n (requests.asking_for c n x o)
asks_for c n x None is f h = h
asks_for c n x (Some r) is f h = asks_of c n x r x.presidency is f h.presides h

pub asks : (c : Cluster) (n : ℕ) (x : UpNode) → IsNode n → UpFits c n x → PlanFits c n (requests.asking c n x)
asks c n x is h = asks_for c n x (oldest x.requests) is (oldest_fits x.requests.waiting h.asked.1) h

-- A request waits.

waits : (c : Cluster) (n : ℕ) (x : UpNode) (number : ℕ) (text : List ℕ) → IsWord number → UpFits c n x → UpFits c n (waiting_with x number text)
waits c n x number text small h =
    let r : Request = record { number = number; text = text; told = true; second = x.second } in
    with_requests_fits c n x (with_request x.requests r) x.presidency (with_request_fits x.requests r (small, h.clock) h.asked) h.presides h

queues : (c : Cluster) (n : ℕ) (x : UpNode) (number : ℕ) (text : List ℕ) → IsNode n → IsWord number → UpFits c n x → PlanFits c n (requests.queued c n x number text)
queues c n x number text is small h =
    let y : UpNode = waiting_with x number text in
    let k : UpFits c n y = waits c n x number text small h in
    either_fits c n (is_full x.requests) _ (requests.asking_if (is_idle x.requests.waiting) c n y) (replies c n number answer.QueueFull x h)
    (either_fits c n (is_idle x.requests.waiting) (requests.asking c n y) (Stays y) (asks c n y is k) k)

-- A command.

goes_elsewhere : (c : Cluster) (n : ℕ) (x : UpNode) (number : ℕ) (o : Option ℕ) → UpFits c n x → PlanFits c n (requests.elsewhere n x number o)
goes_elsewhere c n x number None h = h
goes_elsewhere c n x number (Some president) h = replies c n number (answer.Ask president) x h

queries : (c : Cluster) (n : ℕ) (x : UpNode) (number : ℕ) (query : AdminCommand) (o : Option Presidency) → UpFits c n x → PlanFits c n (requests.queried c n x number query o)
queries c n x number query None h = goes_elsewhere c n x number (coordinator_of x) h
queries c n x number query (Some p) h = either_fits c n (is_full x.requests) _ _ (replies c n number answer.QueueFull x h) (answers_query c n x p number query h)

commands : (c : Cluster) (n : ℕ) (x : UpNode) (number : ℕ) (command : AdminCommand) → IsNode n → IsWord number → UpFits c n x → PlanFits c n (requests.commanded c n x number command)
commands c n x number (Change u) is small h = queues c n x number (words_of u) is small h
commands c n x number (Act a) is small h = queues c n x number (ask_words_of a) is small h
commands c n x number (Status q) is small h = queries c n x number (Status q) x.presidency h
commands c n x number (Rows table) is small h = queries c n x number (Rows table) x.presidency h

words : (c : Cluster) (n : ℕ) (x : UpNode) (number : ℕ) (r : Result AdminCommand WordError) → IsNode n → IsWord number → UpFits c n x → PlanFits c n (requests.worded c n x number r)
words c n x number (Err e) is small h = replies c n number (word_answer e) x h
words c n x number (Ok command) is small h =
    either_fits c n (is_member x.seat) (requests.commanded c n x number command) _ (commands c n x number command is small h) (replies c n number answer.NotMember x h)

pub command_so : (c : Cluster) (n : ℕ) (x : UpNode) (text : List ℕ) → IsNode n → UpFits c n x → PlanFits c n (requests.on_command c n x text)
command_so c n x text is h =
    let f : QueueFits (with_number x.requests) = numbered_fits x.requests h.asked in
    (tt, words c n (numbered x) (next_number x.requests) (command_of (version_of c) text) is f.0 (with_requests_fits c n x (with_number x.requests) x.presidency f h.presides h))

-- An answer.

replied_fits : (c : Cluster) (n : ℕ) (x : UpNode) (number : ℕ) (told : Answer) (o : Option Request) → IsNode n → UpFits c n x → PlanFits c n (requests.replied_to c n x number told o)
replied_fits c n x number told None is h = h
replied_fits c n x number told (Some r) is h =
    (own_line_fits n told (Some r), asks c n _ is (with_requests_fits c n x (answered x.requests number) x.presidency (answered_queue_fits x.requests number h.asked) h.presides h))

replied_as_fits : (c : Cluster) (n : ℕ) (x : UpNode) (number : ℕ) (o : Option Answer) → IsNode n → UpFits c n x → PlanFits c n (requests.replied_as c n x number o)
replied_as_fits c n x number None is h = h
replied_as_fits c n x number (Some told) is h = replied_fits c n x number told (found x.requests.waiting number) is h

pub reply_so : (c : Cluster) (n : ℕ) (x : UpNode) (e number : ℕ) (told : Option Answer) → IsNode n → UpFits c n x → PlanFits c n (requests.on_reply c n x e number told)
reply_so c n x e number told is h =
    either_fits c n (is_member x.seat && is_in x e) (requests.replied_as c n x number told) (Stays x) (replied_as_fits c n x number told is h) h
