-- What a node does with a message.
use Rattle.std.specs.Prelude.{ℕ, ◌%◌, ◌==◌, ◌&&◌, ◌||◌, nat_lt, not, Bool, true, false, ◌+◌, List, [], ◌∷◌, ◌++◌, length, Option, None, Some, is_some, Result, Ok, Err, if◌then◌else◌}
use Rattle.std.specs.List.{list_all}
use Rattle.admin_words.specs.Commands.{request_of}
use Rattle.answer_words.specs.Answers.{answer_in}
use Rattle.ccr_commit.specs.Entries.{texts_of}
use Rattle.cl_base.specs.Sets.{has}
use Rattle.cl_base.specs.Seizings.{SeizeResult}
use Rattle.cl_base.specs.declared.method.Outcome.{Outcome}
use Rattle.cl_base.specs.declared.panic.Panic.TheVariants as panic
use Rattle.cl_base.specs.declared.seizing.SeizeEnd.TheVariants as seized
use Rattle.cmm_attempt.specs.Attempts.{AttemptState, taking}
use Rattle.cmm_member.specs.Nodes.{NodeState, started}
use Rattle.device_queue.specs.Queue.{after_seize, joins, kept_of}
use Rattle.heartbeats.specs.declared.peer.Beat.{Beat}
use Rattle.heartbeats.specs.Peers.{heard}
use Rattle.rg_props.specs.Words.{name_in}
use Rattle.rgm_member.specs.Reports.{report_of}
use Rattle.seize.specs.declared.kind.SeizeKind.{SeizeKind}
use Rattle.seize.specs.declared.kind.SeizeKind.TheVariants.{Vote, Plain}
use Rattle.seize.specs.Seizing as seizing
use Rattle.status_report.specs.declared.attempt_entry.AttemptEntry.TheVariants as attempt
use Rattle.status_report.specs.declared.entry.Entry.TheVariants as entry
use Rattle.status_report.specs.declared.node_entry.DownCause.TheVariants as down
use Rattle.status_report.specs.declared.node_entry.NodeEntry.TheVariants as node
use Rattle.update_log.specs.Logs.{config_after, is_update, votes_after}
use Rattle.wire.specs.declared.lists.Reading.{Reading}
use Rattle.wire.specs.declared.message.Body.{Body}
use Rattle.wire.specs.declared.message.Body.TheVariants as body
use Rattle.wire.specs.declared.message.Install.{Install}
use Rattle.wire.specs.declared.message.Message.{Message}
use Rattle.wire.specs.Epochs.{epochs_shown, greatest}
use Rattle.node_model.specs.declared.cluster.Cluster.{Cluster}
use Rattle.node_model.specs.declared.node.UpNode.{UpNode}
use Rattle.node_model.specs.declared.seat.Seat.{Seat}
use Rattle.node_model.specs.declared.seat.Seat.TheVariants.{Forming, Member}
use Rattle.node_model.specs.Attempts.{entering, going_on, installed_so, installing, keeping_if, promise_of, resting, starts_now}
use Rattle.node_model.specs.Clusters.{is_within}
use Rattle.node_model.specs.Configurations.{own_config}
use Rattle.node_model.specs.Entries.{answering, keeping, telling, telling_of, unknown_lines}
use Rattle.node_model.specs.Groups.{on_done, on_order}
use Rattle.node_model.specs.Plans.{Plan}
use Rattle.node_model.specs.Plans.Plan.{Stays, Falls, Says}
use Rattle.node_model.specs.Requests.{on_reply}
use Rattle.node_model.specs.Seats.{installed_of, is_in, is_member, promised_of, promising, record_of, seen, session_of, state_of, version_of}
use Rattle.node_model.specs.Updates.{on_asked, on_commit_as, on_prepare_as, on_prepared}

-- Packets that are foreign change nothing: they name a node or a device that is not there, a request to seize is of members without
-- this node, a Seized has more keys than a device has, a text is no update, no request or no answer, or a list of updates is bad. The
-- list of a Prepare of the node's own membership at the next place is the node's own updates and then this one.

abbrev pub is_strange : Cluster → ℕ → Bool
is_strange c members = not (is_within members c.nodes)

abbrev pub are_devices : Cluster → ℕ → Bool
are_devices c devices = is_within devices c.devices

abbrev pub has_many_keys : SeizeResult → Bool
has_many_keys (seized.Held keys) = nat_lt 32 (length keys)
has_many_keys (seized.NotRegistered keys) = nat_lt 32 (length keys)
has_many_keys _ = false

abbrev pub is_bad_log : Cluster → List (List ℕ) → Option (List ℕ) → Bool
is_bad_log c committed pending = not (is_some (votes_after c.header committed pending))

abbrev pub is_next_of : UpNode → ℕ → ℕ → Bool
is_next_of x e place = is_member x.seat && is_in x e && (place == length (texts_of (record_of x).entries) + 1)

abbrev pub is_bad_update : Cluster → UpNode → ℕ → ℕ → List ℕ → Bool
is_bad_update c x e place text =
    not (is_update (version_of c) text) || (is_next_of x e place && not (is_some (config_after c.header (texts_of (record_of x).entries ++ text ∷ []))))

abbrev pub is_ok : {T E : Type 0} → Result T E → Bool
is_ok (Ok value) = true
is_ok (Err error) = false

abbrev pub is_known_reading : Cluster → Reading → Bool
is_known_reading c r = has c.devices r.device && has c.nodes r.seizer

abbrev pub is_foreign_seizing : Cluster → ℕ → ℕ → ℕ → Bool
is_foreign_seizing c me members d = not (has members me) || is_strange c members || not (has c.devices d)

abbrev pub is_foreign_install : Cluster → ℕ → Install → Bool
is_foreign_install c me i = not (has i.members me) || is_strange c i.members || is_bad_log c i.committed i.pending || not (list_all (is_known_reading c) i.readings)

abbrev pub is_foreign : Cluster → ℕ → UpNode → Body → Bool
is_foreign c me x (body.Heartbeat promised session member) = false
is_foreign c me x (body.Collect e members) = is_strange c members
is_foreign c me x (body.Promise e installed members valid flagged committed pending) = is_strange c members || not (are_devices c valid) || is_bad_log c committed pending
is_foreign c me x (body.Nack e promised) = false
is_foreign c me x (body.SeizeQuorum e members d) = is_foreign_seizing c me members d
is_foreign c me x (body.SeizeData e members d) = is_foreign_seizing c me members d
is_foreign c me x (body.Seized e d outcome) = not (has c.devices d) || has_many_keys outcome
is_foreign c me x (body.Install i) = is_foreign_install c me i
is_foreign c me x (body.Ready e joined report) = not (are_devices c joined)
is_foreign c me x (body.Start e) = false
is_foreign c me x (body.Prepare e place text) = is_bad_update c x e place text
is_foreign c me x (body.Prepared e place) = false
is_foreign c me x (body.Commit e place) = false
is_foreign c me x (body.Order o) = not (is_some (name_in o.resource))
is_foreign c me x (body.Done e number outcome) = false
is_foreign c me x (body.Request e number text) = not (is_ok (request_of (version_of c) text))
is_foreign c me x (body.Answer e number text) = not (is_some (answer_in text))
is_foreign c me x (body.Excluded e newest) = false

-- A heartbeat: the president answers a member of its session that is not one yet by Start.

abbrev pub beat_in : Body → Option Beat
beat_in (body.Heartbeat promised session member) = Some (record { promised = promised; session = session; member = member })
beat_in _ = None

abbrev pub awaits_start : ℕ → UpNode → ℕ → ℕ → Bool → Bool
awaits_start me x from session member = is_member x.seat && (session_of x % 64 == me) && (session == session_of x) && not member && has (record_of x).members from

abbrev pub on_heartbeat : ℕ → UpNode → ℕ → ℕ → Bool → Plan
on_heartbeat me x from session member = if awaits_start me x from session member then answering from (body.Start (session_of x)) x else Stays x

-- Collect: a greater epoch is promised and saved; its own attempt ends; the session's is answered again; any other is refused.

abbrev pub superseded_by : UpNode → ℕ → Option AttemptState → Plan → Plan
superseded_by x p None rest = rest
superseded_by x p (Some a) rest = telling (entry.Attempt (attempt.Superseded a.plan.epoch p)) rest

abbrev pub rested_by : UpNode → Option AttemptState → UpNode
rested_by x None = x
rested_by x (Some a) = resting x

abbrev pub promised_so : UpNode → ℕ → UpNode
promised_so x p = rested_by (promising x p) x.attempt

abbrev pub on_collect : ℕ → UpNode → ℕ → ℕ → Plan
on_collect me x from p =
    if nat_lt (promised_of x) p
    then keeping me (promised_so x p)
    (superseded_by x p x.attempt (Says (unknown_lines me x.requests.waiting) (answering from (promise_of (promised_so x p) p) (promised_so x p))))
    else (if is_in x p then answering from (promise_of x p) x else answering from (body.Nack p (promised_of x)) x)

-- A request to seize: answered by what is kept, and by fault where it comes after the install; else a task begins. Outside its session
-- it has no answer.

abbrev pub on_request : Cluster → ℕ → UpNode → ℕ → SeizeKind → ℕ → ℕ → ℕ → Option SeizeResult → Plan
on_request c me x from kind e members d (Some result) = answering from (body.Seized e d result) x
on_request c me x from kind e members d None =
    if installed_of x == e
    then answering from (body.Seized e d seized.Fault) x
    else Stays (record x { tasks = after_seize x.tasks d (seizing.begun kind e members me c.id (has (record_of x).valid d)) })

abbrev pub on_seizing : Cluster → ℕ → UpNode → ℕ → SeizeKind → ℕ → ℕ → ℕ → Plan
on_seizing c me x from kind e members d = if is_in x e then on_request c me x from kind e members d (kept_of x.tasks d) else Stays x

-- Install: a member answers Ready once it has joined what it is to join.

abbrev pub ready_of : Cluster → UpNode → Body
ready_of c x = body.Ready (session_of x) (state_of x.seat).joined (report_of x.worker (own_config c x))

abbrev pub readying : Cluster → UpNode → ℕ → Plan
readying c x to = if joins x.tasks then Stays x else answering to (ready_of c x) x

abbrev pub on_install_as : Cluster → ℕ → UpNode → ℕ → Install → Seat → Plan
on_install_as c me x from i (Member s) = readying c x from
on_install_as c me x from i (Forming s) =
    if s.saved.installed == i.epoch then readying c x from
    else installed_so me (installing c me x s x.tasks i) i.epoch (readying c (installing c me x s x.tasks i) from)

abbrev pub on_install : Cluster → ℕ → UpNode → ℕ → Install → Plan
on_install c me x from i = if is_in x i.epoch then on_install_as c me x from i x.seat else answering from (body.Nack i.epoch (promised_of x)) x

-- Start: what is pending is committed and saved, and the node is a member.

abbrev pub sitting : UpNode → NodeState → UpNode
sitting x s = entering (record x { seat = Member (started s) }) s.session

abbrev pub on_start_as : ℕ → UpNode → ℕ → Seat → Plan
on_start_as me x e (Member s) = Stays x
on_start_as me x e (Forming s) =
    if starts_now s e
    then keeping_if (is_some s.saved.entries.pending) me (sitting x s) (telling_of me (node.Member e) (Stays (sitting x s)))
    else Stays x

-- A notice that the attempt of its session leaves it out.

abbrev pub on_excluded : UpNode → ℕ → ℕ → Plan
on_excluded x e newest = if is_in x e then Falls (down.Panic (panic.Excluded newest)) else Stays x

-- The answers to its own attempt.

abbrev pub on_answer : Cluster → ℕ → UpNode → ℕ → Message → Option AttemptState → Plan
on_answer c me x from m None = Stays x
on_answer c me x from m (Some a) = going_on c me x (taking a from m)

-- a method that it calls for an order ends so: that is given beside
abbrev pub on_body : Cluster → ℕ → Outcome → UpNode → ℕ → Message → Body → Plan
on_body c me outcome x from m (body.Heartbeat promised session member) = on_heartbeat me x from session member
on_body c me outcome x from m (body.Collect e members) = on_collect me x from e
on_body c me outcome x from m (body.Promise e installed members valid flagged committed pending) = on_answer c me x from m x.attempt
on_body c me outcome x from m (body.Nack e promised) = on_answer c me x from m x.attempt
on_body c me outcome x from m (body.SeizeQuorum e members d) = on_seizing c me x from Vote e members d
on_body c me outcome x from m (body.SeizeData e members d) = on_seizing c me x from Plain e members d
on_body c me outcome x from m (body.Seized e d result) = on_answer c me x from m x.attempt
on_body c me outcome x from m (body.Install i) = on_install c me x from i
on_body c me outcome x from m (body.Ready e joined report) = on_answer c me x from m x.attempt
on_body c me outcome x from m (body.Start e) = on_start_as me x e x.seat
on_body c me outcome x from m (body.Prepare e place text) = on_prepare_as c me x from e place text x.seat
on_body c me outcome x from m (body.Prepared e place) = on_prepared c me x from e place
on_body c me outcome x from m (body.Commit e place) = on_commit_as me x e place x.seat
on_body c me outcome x from m (body.Order o) = on_order c me outcome x from o
on_body c me outcome x from m (body.Done e number ended) = on_done c me x from e number ended
on_body c me outcome x from m (body.Request e number text) = on_asked c me x from e number text
on_body c me outcome x from m (body.Answer e number text) = on_reply c me x e number (answer_in text)
on_body c me outcome x from m (body.Excluded e newest) = on_excluded x e newest

-- a packet that was delivered: its sender is heard, and the epochs that it shows are seen
abbrev pub hearing : UpNode → ℕ → Body → UpNode
hearing x from b = seen (record x { beats = heard x.beats from (beat_in b) }) (greatest (epochs_shown b))

abbrev pub on_packet : Cluster → ℕ → Outcome → UpNode → ℕ → Message → Plan
on_packet c me outcome x from m = if is_foreign c me x m.body then Stays x else on_body c me outcome (hearing x from m.body) from m m.body
