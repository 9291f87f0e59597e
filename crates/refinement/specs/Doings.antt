-- The small steps of a node: what each makes of a node with its disk, and what it gives.
use Rattle.std.specs.Prelude.{ℕ, ◌+◌, List, [], ◌∷◌, ◌++◌, Option, None, Some, length}
use Rattle.ccr_commit.specs.Entries.{all_committed, texts_of}
use Rattle.cmm_attempt.specs.declared.step.AttemptEnd.{AttemptEnd}
use Rattle.cmm_attempt.specs.Attempts.{AttemptState, beginning}
use Rattle.cmm_attempt.specs.Calls.{Call, turn}
use Rattle.cmm_member.specs.Nodes.{NodeState}
use Rattle.cmm_member.specs.Records.{NodeRecord}
use Rattle.device_queue.specs.Queue.{after_answer, after_seize}
use Rattle.pgr_device.specs.declared.command.PrAnswer.TheVariants as given
use Rattle.pgr_device.specs.declared.command.PrCommand.{PrCommand}
use Rattle.proposals.specs.Proposing.{prepared_by}
use Rattle.request_queue.specs.Queue.{Queue}
use Rattle.rgm_member.specs.State.{WorkerState}
use Rattle.seize.specs.Answers.{Answer}
use Rattle.seize.specs.Seizing as seizing
use Rattle.seize.specs.declared.kind.SeizeKind.{SeizeKind}
use Rattle.std.specs.Prelude.{Ok}
use Rattle.cl_base.specs.Sets.{has}
use Rattle.status_report.specs.declared.attempt_entry.AttemptEntry.TheVariants as attempt
use Rattle.status_report.specs.declared.device_entry.DeviceEntry.TheVariants as device
use Rattle.status_report.specs.declared.device_entry.WriteRefusal.TheVariants.{Fenced, Fault}
use Rattle.status_report.specs.declared.entry.Entry.TheVariants as entry
use Rattle.status_report.specs.declared.node_entry.DownCause.{DownCause}
use Rattle.status_report.specs.declared.node_entry.NodeEntry.{NodeEntry}
use Rattle.status_report.specs.declared.node_entry.NodeEntry.TheVariants as note
use Rattle.status_report.specs.declared.update_entry.UpdateEntry.TheVariants as update
use Rattle.wire.specs.declared.message.Body.{Body}
use Rattle.wire.specs.declared.message.Install.{Install}
use Rattle.node_model.specs.Clusters.{first_valid_of}
use Rattle.node_model.specs.declared.cluster.Cluster.{Cluster}
use Rattle.node_model.specs.declared.node.Node.{Node}
use Rattle.node_model.specs.declared.node.Node.TheVariants.{Down, Up}
use Rattle.node_model.specs.declared.node.UpNode.{UpNode}
use Rattle.node_model.specs.declared.output.Output.{Output}
use Rattle.node_model.specs.declared.output.Output.TheVariants.{Tells, Sends}
use Rattle.node_model.specs.declared.presidency.Presidency.{Presidency}
use Rattle.node_model.specs.Attempts.{adopted_of, base_lines, ended_entry, installing, own_promise, resting, seizing_here, started_entry, starting_as, under_way}
use Rattle.node_model.specs.Configurations.{in_force}
use Rattle.node_model.specs.Devices.{answer_told, distrusting, joining_so, word_in, write_told}
use Rattle.node_model.specs.Entries.{unknown_lines}
use Rattle.node_model.specs.Members.{hearing, promised_so, sitting}
use Rattle.node_model.specs.Presidents.{committing, proposed_by, sent_to, with_proposals}
use Rattle.node_model.specs.Seats.{promising, record_of, seen, session_of, up_with}
use Rattle.node_model.specs.Steps.{at_second}
use Rattle.node_model.specs.Ticks.{later, ticked_output, waiting_less}
use Rattle.node_model.specs.Updates.{committed_so, prepared_so}

-- a node, with the record that its boot would read
pub record Site : Type 0 where
  pub node : Node
  pub disk : NodeRecord

abbrev pub site : Node → NodeRecord → Site
site node disk = record { node = node; disk = disk }

-- What is saved. A change has with it what the node looked at: its state, its attempt, what the attempt gave.
pub data Change : Type 0 where
  Promises : (p : ℕ) → Change  -- p is promised to another node
  Leads : (p members : ℕ) → Change  -- p is promised to an attempt of its own, which begins
  Counts : (a : AttemptState) (k : Call) (s : NodeState) (i : Install) → Change  -- its attempt takes a call, has its majority, and installs here
  Installs : (s : NodeState) (i : Install) → Change  -- another node's attempt is installed
  Starts : (a : AttemptState) (k : Call) (s : NodeState) → Change  -- its attempt takes a call, and starts
  Sits : (s : NodeState) (e : ℕ) → Change  -- another node's attempt has started
  Distrusts : (d : ℕ) → Change  -- its key on the device is not validated, before it registers there
  Admits : (at : ℕ) (command : PrCommand) (a : Answer) (d : ℕ) → Change  -- by this answer it has joined the device
  Proposes : (s : NodeState) (p : Presidency) (text : List ℕ) → Change  -- as president it proposes an update
  Acks : (s : NodeState) (p : Presidency) (q : Queue) (left : Presidency) (text : List ℕ) → Change  -- .. and acknowledges it; its request is answered
  Prepares : (s : NodeState) (text : List ℕ) → Change  -- as a member it has the next update as pending
  Commits : (s : NodeState) → Change  -- .. and what was pending is committed

-- What is done in memory alone, or sent.
pub data Act : Type 0 where
  Hears : (from : ℕ) (b : Body) → Act  -- a packet came
  Ticks : Act  -- its clock ticks: it sends heartbeats and takes its view
  Waits : Act  -- one tick less to wait for until an attempt may begin
  Goes_on : (a : AttemptState) (k : Call) → Act  -- its attempt takes a call
  Ends : (a : AttemptState) (e : AttemptEnd) → Act  -- its attempt has ended so
  Queues : (a : AttemptState) (d : ℕ) (kind : SeizeKind) → Act  -- its attempt asks the node itself to seize a device
  Accepts : (kind : SeizeKind) (e members d : ℕ) → Act  -- another node's attempt asks it
  Takes : (at : ℕ) (command : PrCommand) (a : Answer) → Act  -- the command that was due is answered so
  Stores : (d value : ℕ) (a : Answer) → Act  -- it writes to a device, and is answered so
  Writes : (to : ℕ) (b : Body) → Act  -- it sends a message
  Makes : (c : Change) → Act  -- a change that leaves the record as it is, so that there is nothing to save
  Gives : (os : List Output) → Act  -- lines, and messages that tell nothing of memberships
  Spreads : (receivers : ℕ) (b : Body) → Act  -- a message to each of these nodes
  Minds : (q : Queue) (p : Option Presidency) → Act  -- its requests change, or those that it has in hand as president
  Notes : (from place : ℕ) (p : Presidency) → Act  -- as president it hears that a member has prepared
  Dates : (now : ℕ) → Act  -- it takes its second of the clock
  Works : (w : WorkerState) → Act  -- what it keeps of groups and resources changes

pub data Doing : Type 0 where
  Comes_up : Doing
  Goes_down : (why : DownCause) → Doing
  Does : (a : Act) → Doing
  Saves : (c : Change) → Doing  -- made and saved
  Loses : (c : Change) (why : DownCause) → Doing  -- down in the save, which has left the new record
  Forgets : (c : Change) (why : DownCause) → Doing  -- down in the save, which has left the old record

-- What each makes of a node that is up.

abbrev pub begun_by : Cluster → ℕ → UpNode → ℕ → ℕ → UpNode
begun_by c me x p members = under_way x (beginning p members (own_promise me x p) c.attached c.id).after

abbrev pub answered_so : UpNode → Answer → UpNode
answered_so x a = seen (record x { tasks = after_answer x.tasks a }) (word_in a)

abbrev pub going : UpNode → AttemptState → Call → UpNode
going x a k = under_way x (turn a k).after

-- with other requests, and something else in hand as president
abbrev pub minded : UpNode → Queue → Option Presidency → UpNode
minded x q p = record x { requests = q; presidency = p }

abbrev pub changed : Cluster → ℕ → UpNode → Change → UpNode
changed c me x (Promises p) = promised_so x p
changed c me x (Leads p members) = begun_by c me (record (promising x p) { greatest = p }) p members
changed c me x (Counts a k s i) = installing c me (going x a k) s [] i
changed c me x (Installs s i) = installing c me x s x.tasks i
changed c me x (Starts a k s) = starting_as c me x (turn a k).after s
changed c me x (Sits s e) = sitting x s
changed c me x (Distrusts d) = distrusting x d
changed c me x (Admits at command a d) = joining_so (answered_so x a) d
changed c me x (Proposes s p text) = proposed_by c me x p text
changed c me x (Acks s p q left text) = minded (committing x) q (Some left)
changed c me x (Prepares s text) = prepared_so c x s text
changed c me x (Commits s) = committed_so x s

abbrev pub accepting : Cluster → ℕ → UpNode → SeizeKind → ℕ → ℕ → ℕ → UpNode
accepting c me x kind e members d = record x { tasks = after_seize x.tasks d (seizing.begun kind e members me c.id (has (record_of x).valid d)) }

abbrev pub acted : Cluster → ℕ → UpNode → Act → UpNode
acted c me x (Hears from b) = hearing x from b
acted c me x Ticks = later c x
acted c me x Waits = waiting_less x
acted c me x (Goes_on a k) = going x a k
acted c me x (Ends a e) = resting x
acted c me x (Queues a d kind) = seizing_here c me x d kind (Some a)
acted c me x (Accepts kind e members d) = accepting c me x kind e members d
acted c me x (Takes at command a) = answered_so x a
acted c me x (Stores d value a) = x
acted c me x (Writes to b) = x
acted c me x (Makes change) = changed c me x change
acted c me x (Gives os) = x
acted c me x (Spreads receivers b) = x
acted c me x (Minds q p) = minded x q p
acted c me x (Notes from place p) = with_proposals x p (prepared_by p.proposals from place)
acted c me x (Dates now) = at_second now x
acted c me x (Works w) = record x { worker = w }

-- What each gives, in order.

abbrev pub of_node : ℕ → NodeEntry → Output
of_node me e = Tells (entry.Node me e)

abbrev pub command_line : ℕ → ℕ → PrCommand → Answer → List Output
command_line me at command a = Tells (entry.Device (device.Command me at command (answer_told a))) ∷ []

-- the lines before the save
abbrev pub first_lines : ℕ → Change → List Output
first_lines me (Admits at command a d) = command_line me at command a
first_lines me (Proposes s p text) = Tells (entry.Update (update.Proposed s.session (length (texts_of s.saved.entries) + 1) text)) ∷ []
first_lines me _ = []

abbrev pub superseded_lines : ℕ → Option AttemptState → List Output
superseded_lines p None = []
superseded_lines p (Some a) = Tells (entry.Attempt (attempt.Superseded a.plan.epoch p)) ∷ []

abbrev pub start_lines : AttemptState → NodeState → List Output
start_lines a s =
    Tells (entry.Start (started_entry a (length (all_committed s.saved.entries).committed))) ∷ base_lines a.plan.epoch 0 (all_committed s.saved.entries).committed

-- the flags and marks with which the membership starts
abbrev pub adopted_by : Cluster → AttemptState → UpNode → List Output
adopted_by c a y = adopted_of a.plan.epoch (in_force c y) y.presidency

-- those after it, but for the line that says that it was saved
abbrev pub last_lines : Cluster → ℕ → UpNode → Change → List Output
last_lines c me x (Promises p) = superseded_lines p x.attempt ++ unknown_lines me x.requests.waiting
last_lines c me x (Leads p members) = Tells (entry.Attempt (attempt.Begun p members)) ∷ unknown_lines me x.requests.waiting
last_lines c me x (Counts a k s i) = of_node me (note.Installed i.epoch) ∷ []
last_lines c me x (Installs s i) = of_node me (note.Installed i.epoch) ∷ []
last_lines c me x (Starts a k s) =
    start_lines (turn a k).after s ++ (adopted_by c (turn a k).after (starting_as c me x (turn a k).after s) ++ of_node me (note.Member (turn a k).after.plan.epoch) ∷ [])
last_lines c me x (Sits s e) = of_node me (note.Member e) ∷ []
last_lines c me x (Distrusts d) = []
last_lines c me x (Admits at command a d) = []
last_lines c me x (Proposes s p text) = []
last_lines c me x (Acks s p q left text) = Tells (entry.Update (update.Acknowledged s.session (length (texts_of s.saved.entries)) text)) ∷ []
last_lines c me x (Prepares s text) = []
last_lines c me x (Commits s) = []

abbrev pub saved_lines : Cluster → ℕ → UpNode → Change → List Output
saved_lines c me x change = of_node me note.Saved ∷ last_lines c me x change

-- what a write came to
abbrev pub write_lines : ℕ → UpNode → ℕ → ℕ → Answer → List Output
write_lines me x d value (Ok given.Good) = Tells (entry.Device (device.Accepted (session_of x) me d value)) ∷ []
write_lines me x d value (Ok given.Conflict) = Tells (entry.Device (device.Refused me d value Fenced)) ∷ []
write_lines me x d value _ = Tells (entry.Device (device.Refused me d value Fault)) ∷ []

abbrev pub said : Cluster → ℕ → UpNode → Act → List Output
said c me x (Hears from b) = []
said c me x Ticks = of_node me note.Ticked ∷ ticked_output c x (later c x)
said c me x Waits = []
said c me x (Goes_on a k) = []
said c me x (Ends a e) = Tells (entry.Attempt (ended_entry a.plan.epoch e)) ∷ []
said c me x (Queues a d kind) = []
said c me x (Accepts kind e members d) = []
said c me x (Takes at command a) = command_line me at command a
said c me x (Stores d value a) = Tells (write_told me d value a) ∷ write_lines me x d value a
said c me x (Writes to b) = Sends to b ∷ []
said c me x (Makes change) = first_lines me change ++ last_lines c me x change
said c me x (Gives os) = os
said c me x (Spreads receivers b) = sent_to receivers b
said c me x (Minds q p) = []
said c me x (Notes from place p) = []
said c me x (Dates now) = []
said c me x (Works w) = []

-- What they make of a node with its disk. One that does not fit, as a change of a node that is down, is nothing.

abbrev pub come_up : Cluster → ℕ → NodeRecord → Node → Node
come_up c me disk Down = Up (up_with me (first_valid_of c me) disk)
come_up c me disk (Up x) = Up x

abbrev pub acted_in : Cluster → ℕ → Act → Node → Node
acted_in c me a Down = Down
acted_in c me a (Up x) = Up (acted c me x a)

abbrev pub changed_in : Cluster → ℕ → Change → Node → Node
changed_in c me change Down = Down
changed_in c me change (Up x) = Up (changed c me x change)

abbrev pub kept_by : Cluster → ℕ → NodeRecord → Change → Node → NodeRecord
kept_by c me disk change Down = disk
kept_by c me disk change (Up x) = record_of (changed c me x change)

abbrev pub effect : Cluster → ℕ → Site → Doing → Site
effect c me x Comes_up = site (come_up c me x.disk x.node) x.disk
effect c me x (Goes_down why) = site Down x.disk
effect c me x (Does a) = site (acted_in c me a x.node) x.disk
effect c me x (Saves change) = site (changed_in c me change x.node) (kept_by c me x.disk change x.node)
effect c me x (Loses change why) = site Down (kept_by c me x.disk change x.node)
effect c me x (Forgets change why) = site Down x.disk

abbrev pub said_in : Cluster → ℕ → Act → Node → List Output
said_in c me a Down = []
said_in c me a (Up x) = said c me x a

abbrev pub saved_in : Cluster → ℕ → Change → Node → List Output
saved_in c me change Down = []
saved_in c me change (Up x) = first_lines me change ++ saved_lines c me x change

abbrev pub gone_line : ℕ → DownCause → List Output
gone_line me why = of_node me (note.Down why) ∷ []

-- read before the effect
abbrev pub gives : Cluster → ℕ → Site → Doing → List Output
gives c me x Comes_up = of_node me note.Up ∷ []
gives c me x (Goes_down why) = gone_line me why
gives c me x (Does a) = said_in c me a x.node
gives c me x (Saves change) = saved_in c me change x.node
gives c me x (Loses change why) = first_lines me change ++ gone_line me why
gives c me x (Forgets change why) = first_lines me change ++ gone_line me why

-- One after another.

abbrev pub after_all : Cluster → ℕ → Site → List Doing → Site
after_all c me x [] = x
after_all c me x (d ∷ ds) = after_all c me (effect c me x d) ds

abbrev pub given_all : Cluster → ℕ → Site → List Doing → List Output
given_all c me x [] = []
given_all c me x (d ∷ ds) = gives c me x d ++ given_all c me (effect c me x d) ds
