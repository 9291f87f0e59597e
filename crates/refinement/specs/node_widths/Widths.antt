-- Numbers and sets keep their widths in all that a node keeps, is given, and sends. Texts have none, and a report may have any length:
-- that tells alone whether a message is sent. Of what a president knows of groups it is orders that have widths: nothing else is sent.
use Rattle.std.specs.Prelude.{ℕ, ◌≡◌, ◌≤◌, ◌++◌, All, IfSome, List, [], ◌∷◌, Option, Ok, length}
use Rattle.std.specs.List.{AllByRecursion}
use Rattle.ccr_commit.specs.Entries.{listed, texts_of}
use Rattle.cl_base.specs.Names.{IsName}
use Rattle.cl_base.specs.declared.method.Outcome.{Outcome}
use Rattle.cmm_attempt.specs.declared.plan.Plan.{Plan}
use Rattle.cmm_attempt.specs.declared.promised.Promised.{Promised}
use Rattle.cmm_attempt.specs.declared.seizing.Seizing.{Seizing}
use Rattle.cmm_attempt.specs.Attempts.{AttemptState}
use Rattle.cmm_attempt.specs.Calls as calls
use Rattle.cmm_member.specs.Nodes.{NodeState}
use Rattle.cmm_member.specs.Records.{NodeRecord}
use Rattle.device_queue.specs.declared.task.Task.{Task}
use Rattle.device_queue.specs.declared.task.Work.{Work}
use Rattle.device_queue.specs.declared.task.Work.TheVariants as work
use Rattle.pgr_device.specs.declared.command.PrAnswer.TheVariants as given
use Rattle.proposals.specs.State.{State}
use Rattle.proposals.specs.declared.arrived.Arrived.{Arrived}
use Rattle.proposals.specs.declared.arrived.Kept.{Kept}
use Rattle.proposals.specs.declared.arrived.Proposed.{Proposed}
use Rattle.request_queue.specs.Queue.{Queue}
use Rattle.request_queue.specs.declared.request.Request.{Request}
use Rattle.rg_view.specs.declared.orders.Outstanding.{Outstanding}
use Rattle.rgm_member.specs.declared.past.Past.{Past}
use Rattle.rgm_member.specs.State.{WorkerState}
use Rattle.rgm_president.specs.State.{PresidentState}
use Rattle.seize.specs.Answers.{Answer}
use Rattle.seize.specs.declared.step.SeizeStep.{SeizeStep}
use Rattle.seize.specs.declared.step.SeizeStep.TheVariants as seize
use Rattle.wire.specs.declared.message.Body.{Body}
use Rattle.wire.specs.declared.message.Body.TheVariants as body
use Rattle.wire.specs.declared.message.Message.{Message}
use Rattle.wire.specs.declared.report.GroupReport.{GroupReport}
use Rattle.wire.specs.declared.report.LastFailures.{LastFailures}
use Rattle.wire.specs.declared.report.Report.{Report}
use Rattle.wire.specs.Spelling.{Fits, FitsBody, FitsReading, FitsResult, IsDevice, IsDevices, IsNode, IsNodes, IsShortList, IsWord, seconds_of, spelling}
use Rattle.node_model.specs.declared.cluster.Cluster.{Cluster}
use Rattle.node_model.specs.declared.input.Input.{Input}
use Rattle.node_model.specs.declared.input.Input.TheVariants.{Answered, Packet}
use Rattle.node_model.specs.declared.node.Node.{Node}
use Rattle.node_model.specs.declared.node.Node.TheVariants.{Down, Up}
use Rattle.node_model.specs.declared.node.UpNode.{UpNode}
use Rattle.node_model.specs.declared.output.Output.{Output}
use Rattle.node_model.specs.declared.output.Output.TheVariants.{Tells, Sends}
use Rattle.node_model.specs.declared.presidency.Presidency.{Presidency}
use Rattle.node_model.specs.Seats.{state_of}

-- Messages.

-- updates have places of 64 bits, which count from 1
abbrev pub PlacesFit : List (List ℕ) → Option (List ℕ) → Type 0
PlacesFit committed pending = IsWord (length (committed ++ listed pending))

-- the seconds of a group's last start failures, and of its last move
abbrev pub PastFits : LastFailures → Option ℕ → Type 0
PastFits failures moved = AllByRecursion IsWord (seconds_of failures) × IfSome moved IsWord

abbrev pub GroupFits : GroupReport → Type 0
GroupFits g = PastFits g.failures g.moved

-- what a member reports
abbrev pub ReportFits : Report → Type 0
ReportFits r = AllByRecursion GroupFits r.groups

-- Its numbers and sets have their widths, and so has all else but texts, and how long a report is. What an order is for has a name.
abbrev pub BodyFits : Body → Type 0
BodyFits (body.Promise epoch installed members valid flagged committed pending) =
    IsWord epoch × IsWord installed × IsNodes members × IsDevices valid × PlacesFit committed pending
BodyFits (body.Install i) = IsWord i.epoch × IsNodes i.members × PlacesFit i.committed i.pending × IsShortList FitsReading i.readings
BodyFits (body.Ready epoch joined report) = IsWord epoch × IsDevices joined × ReportFits report
BodyFits (body.Prepare epoch place text) = IsWord epoch × IsWord place
BodyFits (body.Order o) = IsWord o.epoch × IsWord o.number × IsName o.resource
BodyFits (body.Request epoch number text) = IsWord epoch × IsWord number
BodyFits (body.Answer epoch number text) = IsWord epoch × IsWord number
BodyFits b = FitsBody b

-- so it can be spelled, if it is no longer than a packet; a longer one is not sent
abbrev pub SentMessagesFit : Type 0
SentMessagesFit = (m : Message) → IsNode m.sender → BodyFits m.body → length (spelling m) ≤ 131072 → Fits m

-- What happens to a node.

-- A device's answer has numbers of 64 bits, and at most as many keys as there are nodes.
abbrev pub AnswerFits : Answer → Type 0
AnswerFits (Ok (given.Keys keys)) = (length keys ≤ 32) × AllByRecursion IsWord keys
AnswerFits (Ok (given.Word w)) = IsWord w
AnswerFits (Ok (given.Miscompare w)) = IsWord w
AnswerFits _ = Unit {0}

abbrev pub InputFits : Input → Type 0
InputFits (Packet from m) = IsNode from × BodyFits m.body
InputFits (Answered a) = AnswerFits a
InputFits _ = Unit {0}

-- A record.
pub record RecordFits (r : NodeRecord) : Type 0 where
  pub promised : IsWord r.promised
  pub installed : IsWord r.installed
  pub members : IsNodes r.members
  pub valid : IsDevices r.valid
  pub places : IsWord (length (texts_of r.entries))

pub record StateFits (s : NodeState) : Type 0 where
  pub session : IsWord s.session
  pub record_fits : RecordFits s.saved
  pub joined : IsDevices s.joined

-- Tasks.

-- what a seizing has read, or how it ended
abbrev pub ReadFits : SeizeStep → Type 0
ReadFits (seize.Confirm keys) = IsShortList IsWord keys
ReadFits (seize.Ended result) = FitsResult result
ReadFits _ = Unit {0}

-- node n does it in its own name
abbrev pub WorkFits : Cluster → ℕ → Work → Type 0
WorkFits c n (work.Seizing s) = IsWord s.epoch × (s.cluster ≡ c.id) × (s.me ≡ n) × ReadFits s.step
WorkFits c n (work.Joining j) = (j.cluster ≡ c.id) × (j.me ≡ n)

abbrev pub TaskFits : Cluster → ℕ → Task → Type 0
TaskFits c n t = IsDevice t.device × WorkFits c n t.work

-- An attempt.

-- a Promise that was taken
abbrev pub PromisedFits : Promised → Type 0
PromisedFits p = BodyFits p.message.body × IsWord p.shown.summary.installed

-- the seizing of a device
abbrev pub SeizingFits : Seizing → Type 0
SeizingFits e = IsDevice e.attached.device × IfSome e.seizer IsNode × IfSome e.result FitsResult

pub record PartsFit (plan : Plan) (promises : List Promised) (devices : List Seizing) : Type 0 where
  pub epoch : IsWord plan.epoch
  pub members : IsNodes plan.members
  pub nodes : AllByRecursion IsNode plan.nodes
  pub few : length plan.attached ≤ 16
  pub attached : All calls.IsDevice plan.attached
  pub promised : AllByRecursion PromisedFits promises
  pub seizings : AllByRecursion SeizingFits devices

abbrev pub AttemptFits : AttemptState → Type 0
AttemptFits a = PartsFit a.plan a.promises a.devices

-- Requests.

abbrev pub RequestFits : Request → Type 0
RequestFits r = IsWord r.number × IsWord r.second

-- the number of what was asked last, and what waits
abbrev pub QueueFits : Queue → Type 0
QueueFits q = IsWord q.asked × AllByRecursion RequestFits q.waiting

-- a request that has come to the president
abbrev pub ArrivedFits : Arrived → Type 0
ArrivedFits a = IsNode a.from × IsWord a.number

abbrev pub ProposedFits : Proposed → Type 0
ProposedFits p = IsWord p.place × IsNodes p.missing

-- the answer to a node, if there was one
abbrev pub KeptFits : Option Kept → Type 0
KeptFits o = IfSome o (λ (k : Kept). IsWord k.number)

abbrev pub ProposalsFit : State → Type 0
ProposalsFit s = AllByRecursion ArrivedFits s.arrived × IfSome s.proposed ProposedFits × All KeptFits s.answers

-- Orders.

-- an order that is outstanding, if there is one
abbrev pub OutstandingFits : Option Outstanding → Type 0
OutstandingFits o = IfSome o (λ (x : Outstanding). IsWord x.number × IsName x.resource)

-- the membership, how many orders were given, and those that are outstanding
abbrev pub GroupsFit : PresidentState → Type 0
GroupsFit p = IsWord p.epoch × IsWord p.given × All OutstandingFits p.view.outstanding

abbrev pub PresidencyFits : Presidency → Type 0
PresidencyFits p = ProposalsFit p.proposals × IsDevices p.held × GroupsFit p.groups

-- A worker: its membership, the numbers of the orders that it has carried out, and the seconds that it keeps.

abbrev pub OutcomeFits : ℕ × Outcome → Type 0
OutcomeFits e = IsWord e.0

abbrev pub EntryFits : List ℕ × Past → Type 0
EntryFits e = PastFits e.1.failures e.1.moved

abbrev pub RestartsFit : List ℕ × List ℕ → Type 0
RestartsFit e = AllByRecursion IsWord e.1

abbrev pub WorkerFits : WorkerState → Type 0
WorkerFits w = IsWord w.epoch × AllByRecursion OutcomeFits w.outcomes × AllByRecursion EntryFits w.groups × AllByRecursion RestartsFit w.restarts

-- A node.

pub record MemoryFits (c : Cluster) (n : ℕ) (s : NodeState) (tasks : List Task) (attempt : Option AttemptState) (view : Option ℕ) (requests : Queue)
    (worker : WorkerState) (second : ℕ) (office : Option Presidency) : Type 0 where
  pub state : StateFits s
  pub all_tasks : AllByRecursion (TaskFits c n) tasks
  pub own : IfSome attempt AttemptFits
  pub seen : IfSome view IsNodes
  pub asked : QueueFits requests
  pub works : WorkerFits worker
  pub clock : IsWord second
  pub presides : IfSome office PresidencyFits

abbrev pub UpFits : Cluster → ℕ → UpNode → Type 0
UpFits c n x = MemoryFits c n (state_of x.seat) x.tasks x.attempt x.beats.view x.requests x.worker x.second x.presidency

abbrev pub NodeFits : Cluster → ℕ → Node → Type 0
NodeFits c n Down = Unit {0}
NodeFits c n (Up x) = UpFits c n x

-- What it gives: each message goes to a node from number 1 on, and has its widths.
abbrev pub AllFit : List Output → Type 0
AllFit [] = Unit {0}
AllFit (Tells e ∷ os) = AllFit os
AllFit (Sends to b ∷ os) = (1 ≤ to) × BodyFits b × AllFit os

-- there are at most 16 devices, of the numbers 1 to 16
pub record AreDevices (c : Cluster) : Type 0 where
  pub few : length c.attached ≤ 16
  pub attached : All calls.IsDevice c.attached
