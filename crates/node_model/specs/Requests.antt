-- An administrator's command at a node, and the requests that the node has for the president of its membership.
use Rattle.std.specs.Prelude.{ℕ, ◌&&◌, Bool, true, false, List, [], ◌∷◌, Option, None, Some, Result, Ok, Err, if◌then◌else◌}
use Rattle.admin_words.specs.Commands.{command_of}
use Rattle.admin_words.specs.declared.error.WordError.{WordError}
use Rattle.ccr_tables.specs.declared.command.AdminCommand.{AdminCommand}
use Rattle.ccr_tables.specs.declared.command.AdminCommand.TheVariants.{Change, Act, Status, Rows}
use Rattle.request_queue.specs.Queue.{answered, found, is_full, next_number, oldest, with_number, with_request}
use Rattle.request_queue.specs.declared.request.Request.{Request}
use Rattle.status_report.specs.declared.command_entry.Answer.{Answer}
use Rattle.status_report.specs.declared.command_entry.Answer.TheVariants as answer
use Rattle.status_report.specs.declared.command_entry.CommandEntry.TheVariants as command
use Rattle.status_report.specs.declared.entry.Entry.TheVariants as entry
use Rattle.update_words.specs.Words.{ask_words_of, words_of}
use Rattle.wire.specs.declared.message.Body.TheVariants as body
use Rattle.node_model.specs.declared.cluster.Cluster.{Cluster}
use Rattle.node_model.specs.declared.node.UpNode.{UpNode}
use Rattle.node_model.specs.declared.presidency.Presidency.{Presidency}
use Rattle.node_model.specs.Entries.{answering, replying, telling}
use Rattle.node_model.specs.Plans.{Plan}
use Rattle.node_model.specs.Plans.Plan.{Stays, Says}
use Rattle.node_model.specs.Presidents.{answering_query, arriving, own_arrival, own_line, word_answer}
use Rattle.node_model.specs.Seats.{coordinator_of, is_in, is_member, session_of, version_of}

-- The oldest request goes to the president, which may be the node itself.

abbrev pub request_to : UpNode → Request → Option ℕ → Plan
request_to x r None = Stays x
request_to x r (Some president) = answering president (body.Request (session_of x) r.number r.text) x

abbrev pub asking_of : Cluster → ℕ → UpNode → Request → Option Presidency → Plan
asking_of c me x r None = request_to x r (coordinator_of x)
asking_of c me x r (Some p) = arriving c me x p (own_arrival me r)

abbrev pub asking_for : Cluster → ℕ → UpNode → Option Request → Plan
asking_for c me x None = Stays x
asking_for c me x (Some r) = asking_of c me x r x.presidency

abbrev pub asking : Cluster → ℕ → UpNode → Plan
asking c me x = asking_for c me x (oldest x.requests)

-- A command's request waits behind the others. One that waits alone goes at once.

abbrev pub waiting_with : UpNode → ℕ → List ℕ → UpNode
waiting_with x number text = record x { requests = with_request x.requests (record { number = number; text = text; told = true; second = x.second }) }

abbrev pub asking_if : Bool → Cluster → ℕ → UpNode → Plan
asking_if alone c me x = if alone then asking c me x else Stays x

abbrev pub is_idle : List Request → Bool
is_idle [] = true
is_idle (r ∷ rs) = false

abbrev pub queued : Cluster → ℕ → UpNode → ℕ → List ℕ → Plan
queued c me x number text =
    if is_full x.requests then replying me number answer.QueueFull x
    else asking_if (is_idle x.requests.waiting) c me (waiting_with x number text)

-- A query is answered by the president alone, at once.

abbrev pub elsewhere : ℕ → UpNode → ℕ → Option ℕ → Plan
elsewhere me x number None = Stays x
elsewhere me x number (Some president) = replying me number (answer.Ask president) x

abbrev pub queried : Cluster → ℕ → UpNode → ℕ → AdminCommand → Option Presidency → Plan
queried c me x number query None = elsewhere me x number (coordinator_of x)
queried c me x number query (Some p) =
    if is_full x.requests then replying me number answer.QueueFull x else answering_query c me x p number query

-- What a member makes of a command, and what any node does.

abbrev pub commanded : Cluster → ℕ → UpNode → ℕ → AdminCommand → Plan
commanded c me x number (Change u) = queued c me x number (words_of u)
commanded c me x number (Act a) = queued c me x number (ask_words_of a)
commanded c me x number (Status q) = queried c me x number (Status q) x.presidency
commanded c me x number (Rows table) = queried c me x number (Rows table) x.presidency

abbrev pub worded : Cluster → ℕ → UpNode → ℕ → Result AdminCommand WordError → Plan
worded c me x number (Err e) = replying me number (word_answer e) x
worded c me x number (Ok command) = if is_member x.seat then commanded c me x number command else replying me number answer.NotMember x

abbrev pub numbered : UpNode → UpNode
numbered x = record x { requests = with_number x.requests }

-- it takes the next number, which is told first
abbrev pub on_command : Cluster → ℕ → UpNode → List ℕ → Plan
on_command c me x words =
    telling (entry.Command (command.Asked me (next_number x.requests)))
    (worded c me (numbered x) (next_number x.requests) (command_of (version_of c) words))

-- The president's answer to the oldest request: it is told, and the next one goes.

abbrev pub replied_to : Cluster → ℕ → UpNode → ℕ → Answer → Option Request → Plan
replied_to c me x number told None = Stays x
replied_to c me x number told (Some r) = Says (own_line me told (Some r)) (asking c me (record x { requests = answered x.requests number }))

abbrev pub replied_as : Cluster → ℕ → UpNode → ℕ → Option Answer → Plan
replied_as c me x number None = Stays x
replied_as c me x number (Some told) = replied_to c me x number told (found x.requests.waiting number)

abbrev pub on_reply : Cluster → ℕ → UpNode → ℕ → ℕ → Option Answer → Plan
on_reply c me x e number told = if is_member x.seat && is_in x e then replied_as c me x number told else Stays x
