-- What a coordinator does: it begins an attempt, and carries out the steps that the attempt gives.
use Rattle.std.specs.Prelude.{ℕ, ◌+◌, ◌/◌, ◌*◌, ◌^◌, ◌==◌, ◌&&◌, ◌||◌, nat_le, nat_lt, not, Bool, true, false, List, [], ◌∷◌, length, flat_map, Option, None, Some, is_some, if◌then◌else◌}
use Rattle.std.specs.Option.{unwrap_or}
use Rattle.cl_base.specs.Limits.{most_nodes}
use Rattle.cl_base.specs.Numbers.{numbers_to}
use Rattle.cl_base.specs.Sets.{has}
use Rattle.cl_base.specs.declared.panic.Panic.TheVariants as panic
use Rattle.ccr_commit.specs.Entries.{all_committed}
use Rattle.cmm_attempt.specs.declared.counting.BothVotes.{BothVotes}
use Rattle.cmm_attempt.specs.declared.phase.Phase.{Phase}
use Rattle.cmm_attempt.specs.declared.phase.Phase.TheVariants.{Collecting, Choosing, SeizingVotes, SeizingOthers, Installing, Over}
use Rattle.cmm_attempt.specs.declared.step.AttemptEnd.{AttemptEnd}
use Rattle.cmm_attempt.specs.declared.step.AttemptEnd.TheVariants as end
use Rattle.cmm_attempt.specs.declared.step.Step.{Step}
use Rattle.cmm_attempt.specs.declared.step.Step.TheVariants as step
use Rattle.ccr_tables.specs.State.{ConfigState}
use Rattle.cmm_attempt.specs.Attempts.{AttemptState, Turn, beginning, voting, own_readying, newest_installed, newest_promise, ready_from}
use Rattle.cmm_attempt.specs.Calls.{starts_in}
use Rattle.cmm_attempt.specs.Seizings.{held_set}
use Rattle.cmm_member.specs.Nodes.{NodeState, installed_with, started}
use Rattle.cmm_member.specs.Records.{NodeRecord}
use Rattle.device_queue.specs.declared.task.Task.{Task}
use Rattle.device_queue.specs.Queue.{after_join, after_seize, joins}
use Rattle.proposals.specs.State.{nothing_yet}
use Rattle.request_queue.specs.declared.request.Request.{Request}
use Rattle.rg_props.specs.declared.group.Resource.{Resource}
use Rattle.rg_view.specs.States as states
use Rattle.rg_view.specs.declared.states.ResourceAt.{ResourceAt}
use Rattle.rg_view.specs.declared.view.GroupView.{GroupView}
use Rattle.rgm_member.specs.Flags.{has_flag}
use Rattle.rgm_member.specs.Reports.{report_of}
use Rattle.rgm_president.specs.Acts.{president_of}
use Rattle.seize.specs.declared.kind.SeizeKind.{SeizeKind}
use Rattle.seize.specs.Joining as joining
use Rattle.seize.specs.Seizing as seizing
use Rattle.status_report.specs.declared.attempt_entry.AttemptEntry.{AttemptEntry}
use Rattle.status_report.specs.declared.attempt_entry.AttemptEntry.TheVariants as attempt
use Rattle.status_report.specs.declared.entry.Entry.TheVariants as entry
use Rattle.status_report.specs.declared.node_entry.DownCause.TheVariants as down
use Rattle.status_report.specs.declared.node_entry.NodeEntry.TheVariants as node
use Rattle.sent_orders.specs.Ages.{nothing_sent}
use Rattle.status_report.specs.declared.start_entry.AdoptedFlags.{AdoptedFlags}
use Rattle.status_report.specs.declared.start_entry.StartEntry.{StartEntry}
use Rattle.status_report.specs.declared.start_entry.StartEntry.TheVariants as start
use Rattle.update_log.specs.Logs.{votes_after}
use Rattle.update_log.specs.declared.votes.LogVotes.{LogVotes}
use Rattle.wire.specs.declared.lists.Reading.{Reading}
use Rattle.wire.specs.declared.message.Body.{Body}
use Rattle.wire.specs.declared.message.Body.TheVariants as body
use Rattle.wire.specs.declared.message.Install.{Install}
use Rattle.wire.specs.declared.message.Message.{Message}
use Rattle.wire.specs.declared.report.Report.{Report}
use Rattle.node_model.specs.declared.cluster.Cluster.{Cluster}
use Rattle.node_model.specs.declared.node.UpNode.{UpNode}
use Rattle.node_model.specs.declared.output.Output.{Output}
use Rattle.node_model.specs.declared.output.Output.TheVariants.{Tells}
use Rattle.node_model.specs.declared.presidency.Presidency.{Presidency}
use Rattle.node_model.specs.declared.seat.Seat.{Seat}
use Rattle.node_model.specs.declared.seat.Seat.TheVariants.{Forming, Member}
use Rattle.node_model.specs.Clusters.{has_path}
use Rattle.node_model.specs.Configurations.{in_force, own_config}
use Rattle.node_model.specs.Deciding.{deciding}
use Rattle.node_model.specs.Entries.{answering, keeping, telling, telling_of, unknown_lines}
use Rattle.node_model.specs.Plans.{Plan, and_then}
use Rattle.node_model.specs.Plans.Plan.{Stays, Falls, Says}
use Rattle.node_model.specs.Presidents.{tidied}
use Rattle.node_model.specs.Seats.{promised_of, promising, record_of}

-- the node's record as it is shown in a Promise of p, and whether a resource has a flag there
abbrev pub shown_in : NodeRecord → Bool → ℕ → Body
shown_in r flagged p = body.Promise p r.installed r.members r.valid flagged r.entries.committed r.entries.pending

abbrev pub promise_of : UpNode → ℕ → Body
promise_of x p = shown_in (record_of x) (has_flag x.worker) p

abbrev pub under_way : UpNode → AttemptState → UpNode
under_way x a = record x { attempt = Some a }

-- an attempt has ended: none begins for four ticks
abbrev pub resting : UpNode → UpNode
resting x = record x { attempt = None; beats = record x.beats { wait = 4 } }

-- How it ended.

abbrev pub ended_entry : ℕ → AttemptEnd → AttemptEntry
ended_entry e (end.Votes have need lacking) = attempt.Votes e have need lacking
ended_entry e (end.Superseded p) = attempt.Superseded e p
ended_entry e (end.Silent n) = attempt.Silent e n
ended_entry e (end.Foreign n) = attempt.Foreign e n
ended_entry e (end.Excluded n) = attempt.Excluded e n

abbrev pub left_out_by : AttemptEnd → Option ℕ
left_out_by (end.Votes have need lacking) = None
left_out_by (end.Superseded p) = None
left_out_by (end.Silent n) = None
left_out_by (end.Foreign n) = None
left_out_by (end.Excluded n) = Some n

-- a member that is left out is told the newest epoch; the coordinator itself panics
abbrev pub excluding : ℕ → UpNode → ℕ → ℕ → Option ℕ → Plan
excluding me x e newest None = Stays x
excluding me x e newest (Some m) = if m == me then Falls (down.Panic (panic.Excluded newest)) else answering m (body.Excluded e newest) x

abbrev pub ending : ℕ → UpNode → AttemptEnd → Option AttemptState → Plan
ending me x e None = Stays x
ending me x e (Some a) = telling (entry.Attempt (ended_entry a.plan.epoch e)) (excluding me (resting x) a.plan.epoch (unwrap_or (newest_installed a) 0) (left_out_by e))

-- The coordinator seizes a device itself.
abbrev pub seizing_here : Cluster → ℕ → UpNode → ℕ → SeizeKind → Option AttemptState → UpNode
seizing_here c me x d kind None = x
seizing_here c me x d kind (Some a) =
    if has a.plan.members me
    then record x { tasks = after_seize x.tasks d (seizing.begun kind a.plan.epoch a.plan.members me c.id (has (record_of x).valid d)) }
    else x

-- After an install each device that was read, that the node has a path to and has not joined by the install, is to be joined.
abbrev pub is_to_join : Cluster → ℕ → ℕ → Reading → Bool
is_to_join c me joined r = has_path c.attached me r.device && not (has joined r.device)

abbrev pub joining_with : Cluster → ℕ → ℕ → ℕ → List Task → Reading → List Task
joining_with c me e joined tasks r = if is_to_join c me joined r then after_join tasks r.device (joining.begun e me c.id) else tasks

abbrev pub joining_from : Cluster → ℕ → ℕ → ℕ → List Task → List Reading → List Task
joining_from c me e joined tasks [] = tasks
joining_from c me e joined tasks (r ∷ rs) = joining_from c me e joined (joining_with c me e joined tasks r) rs

-- Of what the installed updates delete nothing is kept.
abbrev pub installing : Cluster → ℕ → UpNode → NodeState → List Task → Install → UpNode
installing c me x s tasks i =
    tidied c (record x { seat = Forming (installed_with s i); tasks = joining_from c me i.epoch (installed_with s i).joined tasks i.readings })

-- the install is of the node's session, and not installed yet
abbrev pub installs_now : NodeState → Install → Bool
installs_now s i = nat_le 1 i.epoch && (s.session == i.epoch) && not (s.saved.installed == i.epoch)

abbrev pub install_of : Install → Seat → Seat
install_of i (Member s) = Member s
install_of i (Forming s) = if installs_now s i then Forming (installed_with s i) else Forming s

abbrev pub changed_by : Install → Seat → Bool
changed_by i (Member s) = false
changed_by i (Forming s) = installs_now s i

-- the node with the install in its record
abbrev pub installed_in : Install → UpNode → UpNode
installed_in i x = record x { seat = install_of i x.seat }

-- the node has installed it: it saves, and says so
abbrev pub installed_so : ℕ → UpNode → ℕ → Plan → Plan
installed_so me y e rest = keeping me y (telling_of me (node.Installed e) rest)

-- The coordinator installs; its seizings are over.
abbrev pub installing_here : Cluster → ℕ → UpNode → Install → Seat → Plan
installing_here c me x i (Member s) = Stays x
installing_here c me x i (Forming s) =
    if installs_now s i
    then installed_so me (installing c me x s [] i) i.epoch (Stays (installing c me x s [] i))
    else Stays x

-- The coordinator starts the membership: a pending update is committed and saved first.

abbrev pub base_lines : ℕ → ℕ → List (List ℕ) → List Output
base_lines e before [] = []
base_lines e before (text ∷ texts) = Tells (entry.Start (start.Base e (before + 1) text)) ∷ base_lines e (before + 1) texts

abbrev pub starts_now : NodeState → ℕ → Bool
starts_now s e = nat_le 1 e && (s.session == e) && (s.saved.installed == e)

-- the node as a member, and whether its record has changed by that
abbrev pub member_by : ℕ → Seat → Option (NodeState × Bool)
member_by e (Member s) = None
member_by e (Forming s) = if starts_now s e then Some (started s, is_some s.saved.entries.pending) else None

abbrev pub keeping_if : Bool → ℕ → UpNode → Plan → Plan
keeping_if changed me x rest = if changed then keeping me x rest else rest

-- The node is a member of the membership: it has carried out no order of it.
abbrev pub entering : UpNode → ℕ → UpNode
entering x e = record x { worker = record x.worker { epoch = e; outcomes = [] } }

abbrev pub report_shown : ℕ → Body → List (ℕ × Report)
report_shown n (body.Ready e joined report) = (n, report) ∷ []
report_shown n _ = []

-- what the members report: the node itself, and the others in their Readies
abbrev pub report_in : ℕ → Option Message → List (ℕ × Report)
report_in n None = []
report_in n (Some m) = report_shown n m.body

abbrev pub report_for : ℕ → Report → AttemptState → ℕ → List (ℕ × Report)
report_for me own a n = if n == me then (n, own) ∷ [] else report_in n (ready_from a n)

unfoldable pub reports_of : ℕ → Report → AttemptState → List (ℕ × Report)
reports_of me own a = flat_map (report_for me own a) (numbers_to a.plan.members most_nodes)

-- it is the president of the membership, which holds these devices, and adopts what the members report
abbrev pub presiding : Cluster → ℕ → UpNode → AttemptState → Presidency
presiding c me x a = record {
  proposals = nothing_yet;
  held = held_set a.devices;
  groups = president_of (own_config c x) a.plan.epoch a.plan.members (reports_of me (report_of x.worker (own_config c x)) a) x.second;
  sent = nothing_sent;
  balancer = [];
}

abbrev pub starting_as : Cluster → ℕ → UpNode → AttemptState → NodeState → UpNode
starting_as c me x a s = entering (record x { seat = Member (started s); attempt = None; presidency = Some (presiding c me x a) }) a.plan.epoch

abbrev pub started_entry : AttemptState → ℕ → StartEntry
started_entry a base = start.Started a.plan.epoch a.plan.members (held_set a.devices) base

-- the flags and marks with which it starts: a line for each node and resource that has one
abbrev pub flags_of : ResourceAt → AdoptedFlags
flags_of s = record { pre = s.pre; run = s.run; mon = s.mon; faulted = s.faulted; stop_failed = s.stop_failed }

abbrev pub is_adopted : ResourceAt → Bool
is_adopted s = s.pre || s.run || s.mon || s.faulted || s.stop_failed

abbrev pub adopted_line : ℕ → ℕ → List ℕ → ResourceAt → List Output
adopted_line e n r s = if is_adopted s then Tells (entry.Start (start.Adopted e n r (flags_of s))) ∷ [] else []

abbrev pub adopted_on : ℕ → GroupView → List (List ℕ × Resource) → ℕ → List Output
adopted_on e v resources n = flat_map (λ x. adopted_line e n x.0 (states.state_of v.resources x.0 n)) resources

unfoldable pub adopted_lines : ℕ → GroupView → List (List ℕ × Resource) → List Output
adopted_lines e v resources = flat_map (adopted_on e v resources) (numbers_to v.members most_nodes)

abbrev pub adopted_of : ℕ → ConfigState → Option Presidency → List Output
adopted_of e s None = []
adopted_of e s (Some p) = adopted_lines e p.groups.view s.groups.resources

abbrev pub start_lines : Cluster → AttemptState → NodeState → UpNode → Plan → Plan
start_lines c a s y rest =
    telling (entry.Start (started_entry a (length (all_committed s.saved.entries).committed)))
    (Says (base_lines a.plan.epoch 0 (all_committed s.saved.entries).committed)
    (Says (adopted_of a.plan.epoch (in_force c y) y.presidency) rest))

abbrev pub started_so : Cluster → ℕ → AttemptState → NodeState → UpNode → Plan
started_so c me a s y =
    keeping_if (is_some s.saved.entries.pending) me y (start_lines c a s y (telling_of me (node.Member a.plan.epoch) (Stays y)))

abbrev pub starting_with : Cluster → ℕ → UpNode → AttemptState → Seat → Plan
starting_with c me x a (Member s) = Stays x
starting_with c me x a (Forming s) = if starts_now s a.plan.epoch then started_so c me a s (starting_as c me x a s) else Stays x

abbrev pub starting_here : Cluster → ℕ → UpNode → Option AttemptState → Plan
starting_here c me x None = Stays x
starting_here c me x (Some a) = starting_with c me x a x.seat

-- The steps of an attempt, one after another.

abbrev pub step_plan : Cluster → ℕ → UpNode → Step → Plan
step_plan c me x (step.Send to m) = answering to m.body x
step_plan c me x (step.SeizeHere d kind) = Stays (seizing_here c me x d kind x.attempt)
step_plan c me x (step.NeedVotes n) = Stays x
step_plan c me x (step.InstallHere i) = installing_here c me x i x.seat
step_plan c me x step.StartHere = starting_here c me x x.attempt
step_plan c me x (step.Ended e) = ending me x e x.attempt

abbrev pub performing : Cluster → ℕ → UpNode → List Step → Plan
performing c me x [] = Stays x
performing c me x (s ∷ steps) = and_then (step_plan c me x s) (λ y. performing c me y steps)

-- .. and where the membership has started, the president decides.
abbrev pub performed_all : Cluster → ℕ → UpNode → List Step → Plan
performed_all c me x steps = and_then (performing c me x steps) (λ y. if starts_in steps then deciding c me y else Stays y)

-- The coordinator's own part of the installed membership is done: it has no device left to join.

abbrev pub readied_by : Cluster → ℕ → UpNode → Option AttemptState → Plan
readied_by c me x None = Stays x
readied_by c me x (Some a) = performed_all c me (under_way x (own_readying a).after) (own_readying a).steps

abbrev pub own_ready : Cluster → ℕ → UpNode → Plan
own_ready c me x = if joins x.tasks then Stays x else readied_by c me x x.attempt

abbrev pub is_install : Step → Bool
is_install (step.InstallHere i) = true
is_install _ = false

abbrev pub begins_install : List Step → Bool
begins_install [] = false
begins_install (s ∷ steps) = is_install s

abbrev pub performed : Cluster → ℕ → UpNode → List Step → Plan
performed c me x steps = and_then (performed_all c me x steps) (λ y. if begins_install steps then own_ready c me y else Stays y)

-- The votes under the newest record are given at once.

abbrev pub is_choosing : Phase → Bool
is_choosing Collecting = false
is_choosing Choosing = true
is_choosing SeizingVotes = false
is_choosing SeizingOthers = false
is_choosing Installing = false
is_choosing Over = false

-- the votes at first; a list of updates that has none is no node's
abbrev pub first_votes : Cluster → BothVotes
first_votes c = record { committed = c.votes; pending = None }

abbrev pub votes_by : Cluster → Option LogVotes → BothVotes
votes_by c None = first_votes c
votes_by c (Some v) = record { committed = v.committed; pending = v.pending }

-- under the committed updates that a Promise shows, and under these with the pending one
abbrev pub votes_shown : Cluster → Body → BothVotes
votes_shown c (body.Promise e installed members valid flagged committed pending) = votes_by c (votes_after c.header committed pending)
votes_shown c _ = first_votes c

abbrev pub votes_of : Cluster → Option Message → BothVotes
votes_of c None = first_votes c
votes_of c (Some m) = votes_shown c m.body

-- under the newest record
abbrev pub votes_in : Cluster → AttemptState → BothVotes
votes_in c a = votes_of c (newest_promise a)

abbrev pub going_on : Cluster → ℕ → UpNode → Turn → Plan
going_on c me x t =
    if is_choosing t.after.phase
    then performed c me (under_way x (voting t.after (votes_in c t.after)).after) (voting t.after (votes_in c t.after)).steps
    else performed c me (under_way x t.after) t.steps

-- An attempt begins: the node promises its epoch and saves that, and then ..

abbrev pub may_count_on : ℕ → Bool
may_count_on greatest = nat_lt (greatest / 64) (2 ^ 56)

abbrev pub next_epoch : ℕ → UpNode → ℕ
next_epoch me x = (x.greatest / 64 + 1) * 64 + me

abbrev pub own_promise : ℕ → UpNode → ℕ → Message
own_promise me x p = record { sender = me; body = promise_of x p }

-- what waited is told as unknown
abbrev pub led : Cluster → ℕ → UpNode → List Request → ℕ → ℕ → Plan
led c me y waiting p members =
    keeping me y
    (telling (entry.Attempt (attempt.Begun p members))
    (Says (unknown_lines me waiting) (going_on c me y (beginning p members (own_promise me y p) c.attached c.id))))

abbrev pub leading_to : Cluster → ℕ → UpNode → ℕ → ℕ → Plan
leading_to c me x p members = if nat_lt (promised_of x) p then led c me (record (promising x p) { greatest = p }) x.requests.waiting p members else Stays x

abbrev pub leading : Cluster → ℕ → UpNode → ℕ → Plan
leading c me x members = leading_to c me x (next_epoch me x) members
