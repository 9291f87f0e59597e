-- The laws of this crate, each as a statement.
use Rattle.std.specs.Prelude.{ℕ, ◌≡◌, ◌≢◌, ◌<◌, ◌≤◌, ◌%◌, ◌&&◌, All, Bool, true, false, List, [], ◌∷◌, Option, None, Some}
use Rattle.cl_base.specs.Sets.{has}
use Rattle.cluster_machine.specs.Cluster.{Cluster as Whole}
use Rattle.cluster_machine.specs.Parts.{WriteIsSafe}
use Rattle.device_queue.specs.declared.progress.Progress.{Progress}
use Rattle.device_queue.specs.declared.progress.Progress.TheVariants as progress
use Rattle.device_queue.specs.Queue.{begins_plainly, due_device, next_of, progress_after}
use Rattle.device_ties.specs.Commands.{Completion, executed, learned}
use Rattle.device_ties.specs.Devices.{DeviceTied}
use Rattle.device_machine.specs.Device as machine
use Rattle.device_machine.specs.Sharing as sharing
use Rattle.device_machine.specs.Sharing.{Sharing}
use Rattle.device_ties.specs.Tasks.{is_member}
use Rattle.machine_base.specs.Put.{put}
use Rattle.attempt_laws.specs.Asking.{AreApart, IsToldAt, numbers_of}
use Rattle.attempt_laws.specs.Machine.{AreVotesOf, MachineHas}
use Rattle.cmm_attempt.specs.declared.counting.BothVotes.{BothVotes}
use Rattle.cmm_attempt.specs.Attempts.{AttemptState, beginning}
use Rattle.attempt_laws.specs.Laws.{is_held_in}
use Rattle.cmm_attempt.specs.Calls as calls
use Rattle.cmm_attempt.specs.Calls.{Call, IsReached as IsReachedAttempt, May as MayCall, installs_in, turn}
use Rattle.machine_base.specs.Epochs.{coordinator}
use Rattle.cmm_member.specs.Nodes.{NodeState}
use Rattle.cmm_member.specs.Records.{NodeRecord}
use Rattle.membership_machine.specs.Events as membership
use Rattle.membership_machine.specs.Starts.{Alike, DevicesMeet, Follows, last_start}
use Rattle.membership_machine.specs.Votes.{Setting}
use Rattle.node_model.specs.declared.cluster.Cluster.{Cluster}
use Rattle.node_model.specs.declared.node.Node.{Node}
use Rattle.node_model.specs.declared.node.Node.TheVariants.{Down, Up}
use Rattle.node_model.specs.declared.node.UpNode.{UpNode}
use Rattle.node_model.specs.Devices.{distrusting, joining_so}
use Rattle.node_model.specs.declared.presidency.Presidency.{Presidency}
use Rattle.node_model.specs.declared.seat.Seat.TheVariants.{Forming, Member}
use Rattle.node_model.specs.Attempts.{installing, own_promise, seizing_here, starting_as}
use Rattle.node_model.specs.Members.{promised_so, sitting}
use Rattle.node_model.specs.Presidents.{committing, proposed_by}
use Rattle.node_model.specs.Seats.{promising, record_of, state_of, up_with}
use Rattle.node_model.specs.Updates.{committed_so, prepared_so}
use Rattle.pgr_device.specs.declared.command.PrAnswer.TheVariants as given
use Rattle.pgr_device.specs.declared.command.PrCommand.{PrCommand}
use Rattle.pgr_device.specs.declared.command.PrCommand.TheVariants as command
use Rattle.pgr_device.specs.Spc as spc
use Rattle.refinement.specs.Doings.{Act, accepting, acted, answered_so, begun_by, going, minded}
use Rattle.refinement.specs.Doings.Act.{Dates, Ends, Gives, Hears, Minds, Notes, Spreads, Ticks, Waits, Works, Writes}
use Rattle.request_queue.specs.Queue.{Queue}
use Rattle.cl_base.specs.declared.header.DeviceKind.{DeviceKind}
use Rattle.cl_base.specs.declared.header.DeviceKind.TheVariants.{Quorum}
use Rattle.seize.specs.Answers.{Answer}
use Rattle.seize.specs.Shows.{is_vote}
use Rattle.seize.specs.declared.kind.SeizeKind.{SeizeKind}
use Rattle.seize.specs.declared.kind.JoinResult.TheVariants as join
use Rattle.wire.specs.declared.lists.Reading.{Reading}
use Rattle.wire.specs.declared.message.Install.{Install}
use Rattle.wire.specs.Spelling.{IsDevice, IsDevices, IsNode}
use Rattle.world_model.specs.First.{first_device_of}
use Rattle.cluster_ties.specs.Moves.{CallGoes, DeviceGoes, IsReached, MembershipGoes, Moves, first_whole}
use Rattle.cluster_ties.specs.Ties.{AttemptAt, Devices, DevicesTied, NodeAt, UpAt}

-- the node with the answer to its command taken: where a joining has come to its end by it, it has joined the device
abbrev pub taken_by : UpNode → Answer → Progress → UpNode
taken_by x a (progress.Joined d join.Joined) = joining_so (answered_so x a) d
taken_by x a _ = answered_so x a

-- where a seizing is about to register, the record calls the key not validated
abbrev pub IsReadied : UpNode → Type 0
IsReadied x = (d : ℕ) → begins_plainly x.tasks ≡ Some d → has (record_of x).valid d ≡ false

-- what is on the disk is what a node keeps
abbrev pub IsKept : NodeRecord → Node → Type 0
IsKept disk Down = Unit {0}
IsKept disk (Up x) = disk ≡ record_of x

-- The command that is due at a node is carried out, answered, or fails, done or not done; the node takes what it learns: this is steps of
-- the whole, at that device alone.
abbrev pub CommandsGo : Type 0
CommandsGo = (S : Setting) (c : Cluster) (W : Whole) (n : ℕ) (x : UpNode) (devices : Devices) (f : Completion) (d : ℕ) (k : PrCommand) → IsReached S W → IsNode n → IsDevice d
    → DevicesTied c devices W → UpAt c W n x → IsReadied x → due_device x.tasks ≡ Some d → next_of x.tasks ≡ Some k
    → DeviceGoes S c W n (put devices d (executed f (devices d) n k)) (taken_by x (learned f (devices d) n k) (progress_after x.tasks (learned f (devices d) n k)))

-- A node that promises is in the session of what it promises: what it had joined is past, and so are its tasks and its attempt.
abbrev pub PromisesGo : Type 0
PromisesGo = (S : Setting) (c : Cluster) (W : Whole) (n q : ℕ) (x : UpNode) (devices : Devices) → IsReached S W → DevicesTied c devices W → UpAt c W n x
    → membership.Allowed S W.memberships (membership.Promise n q)
    → MembershipGoes S c W n (membership.Promise n q) devices (record_of (promised_so x q)) (Up (promised_so x q))

-- One that goes down keeps what its record says.
abbrev pub CrashesGo : Type 0
CrashesGo = (S : Setting) (c : Cluster) (W : Whole) (n : ℕ) (disk : NodeRecord) (node : Node) (devices : Devices) → IsReached S W → DevicesTied c devices W → NodeAt c W n disk node
    → IsKept disk node → MembershipGoes S c W n (membership.Crash n) devices disk Down

-- the node with a number of its own promised
abbrev pub leading_so : UpNode → ℕ → UpNode
leading_so x p = record (promising x p) { greatest = p }

-- A call on an attempt, which tells what is so at each device, is steps of the whole: all have promised, or nodes are asked.
abbrev pub CallsGo : Type 0
CallsGo = (S : Setting) (W : Whole) (n : ℕ) (a : AttemptState) (k : Call) → IsReached S W → IsReachedAttempt a → MayCall a k → coordinator a.plan.epoch ≡ n
    → MachineHas W.memberships a → MachineHas W.memberships (turn a k).after → AttemptAt W (Some a) → ((d : ℕ) → IsToldAt (W.device d) a d k) → CallGoes S W n (turn a k)

-- So it is of the node itself, where its attempt does not install by the call.
abbrev pub CallsGoOn : Type 0
CallsGoOn = (S : Setting) (c : Cluster) (W : Whole) (n : ℕ) (x : UpNode) (a : AttemptState) (k : Call) (devices : Devices) → IsReached S W → DevicesTied c devices W → UpAt c W n x → x.attempt ≡ Some a
    → IsReachedAttempt a → MayCall a k → coordinator a.plan.epoch ≡ n → MachineHas W.memberships a → MachineHas W.memberships (turn a k).after → ((d : ℕ) → IsToldAt (W.device d) a d k)
    → installs_in (turn a k).steps ≡ None → DeviceGoes S c W n devices (going x a k)

-- A node that is asked to seize a device in its session, which it has not installed, begins to, unless it did already.
pub record IsAskedTo (s : Sharing) (epoch members n : ℕ) (kind : SeizeKind) : Type 0 where
  pub collected : (s.attempt epoch).collected ≡ true
  pub asked : (s.attempt epoch).asked n ≡ true
  pub as_kind : (s.attempt epoch).quorum ≡ is_vote kind
  pub of_members : (m : ℕ) → (s.attempt epoch).members m ≡ is_member members m

abbrev pub SeizesGo : Type 0
SeizesGo = (S : Setting) (c : Cluster) (W : Whole) (n : ℕ) (x : UpNode) (devices : Devices) (kind : SeizeKind) (epoch members d : ℕ) → IsReached S W → DevicesTied c devices W → UpAt c W n x
    → IsAskedTo (W.device d) epoch members n kind → is_member members n ≡ true → 0 < epoch → (W.memberships.node n).session ≡ epoch → (W.memberships.node n).saved.installed < epoch
    → DeviceGoes S c W n devices (accepting c n x kind epoch members d)

-- So does one that its own attempt asks.
abbrev pub QueuesGo : Type 0
QueuesGo = (S : Setting) (c : Cluster) (W : Whole) (n : ℕ) (x : UpNode) (devices : Devices) (a : AttemptState) (kind : SeizeKind) (d : ℕ) → IsReached S W → DevicesTied c devices W → UpAt c W n x
    → IsAskedTo (W.device d) a.plan.epoch a.plan.members n kind → is_member a.plan.members n ≡ true → 0 < a.plan.epoch → (W.memberships.node n).session ≡ a.plan.epoch
    → (W.memberships.node n).saved.installed < a.plan.epoch → DeviceGoes S c W n devices (seizing_here c n x d kind (Some a))

-- What an Install tells of devices: its readings are of devices that the attempt holds, each by the node that seized it, and no two are of one.
pub record IsRead (W : Whole) (q : ℕ) (r : Reading) : Type 0 where
  pub holds : ((W.device r.device).attempt q).holds ≡ true
  pub seizer : ((W.device r.device).attempt q).seizer ≡ r.seizer
  pub device : IsDevice r.device

abbrev pub LacksDevice : ℕ → List Reading → Type 0
LacksDevice d [] = Unit {0}
LacksDevice d (r ∷ readings) = (r.device ≢ d) × LacksDevice d readings

abbrev pub AreRead : Whole → ℕ → List Reading → Type 0
AreRead W q [] = Unit {0}
AreRead W q (r ∷ readings) = IsRead W q r × LacksDevice r.device readings × AreRead W q readings

-- A member that installs joins each device that was read, at once or by registering anew.
abbrev pub InstallsGo : Type 0
InstallsGo = (S : Setting) (c : Cluster) (W : Whole) (n : ℕ) (x : UpNode) (s : NodeState) (i : Install) (devices : Devices) → IsReached S W → DevicesTied c devices W → UpAt c W n x
    → x.seat ≡ Forming s → s.me ≡ n → IsDevices s.saved.valid → membership.Allowed S W.memberships (membership.Install n i.epoch) → AreRead W i.epoch i.readings
    → MembershipGoes S c W n (membership.Install n i.epoch) devices (record_of (installing c n x s x.tasks i)) (Up (installing c n x s x.tasks i))

-- A member's write to a device that it has joined is taken, answered or not, or changes nothing.
abbrev pub WritesGo : Type 0
WritesGo = (S : Setting) (c : Cluster) (W : Whole) (n : ℕ) (x : UpNode) (devices : Devices) (f : Completion) (d value : ℕ) → IsReached S W → DevicesTied c devices W → UpAt c W n x
    → (W.memberships.node n).member ≡ true → has (state_of x.seat).joined d ≡ true → DeviceGoes S c W n (put devices d (executed f (devices d) n (command.Write value))) x

-- its votes are counted
abbrev pub count_of : AttemptState → membership.Event
count_of t = membership.Count t.plan.epoch t.newest (is_held_in t.devices)

-- It goes so, and what the install tells of devices is so.
pub record CountGoes (S : Setting) (c : Cluster) (W : Whole) (n : ℕ) (e : membership.Event) (devices : Devices) (disk : NodeRecord) (node : Node) (i : Install) : Type 0 where
  pub goes : MembershipGoes S c W n e devices disk node
  pub counted : (d : ℕ) → ((goes.machine.device d).attempt i.epoch).counted ≡ true
  pub read : AreRead goes.machine i.epoch i.readings

-- The coordinator's attempt takes a call, by which it has its majority: nodes may be asked, the votes are counted at each device, and it installs itself.
-- The votes that it was given are those of the record that it has as the newest.
abbrev pub CountsGo : Type 0
CountsGo = (S : Setting) (c : Cluster) (W : Whole) (n : ℕ) (x : UpNode) (s : NodeState) (a : AttemptState) (k : Call) (i : Install) (both : BothVotes) (devices : Devices)
    → IsReached S W → DevicesTied c devices W → UpAt c W n x
    → x.seat ≡ Forming s → x.attempt ≡ Some a → s.me ≡ n → IsDevices s.saved.valid → IsReachedAttempt a → MayCall a k → coordinator a.plan.epoch ≡ n
    → MachineHas W.memberships a → MachineHas W.memberships (turn a k).after → ((d : ℕ) → IsToldAt (W.device d) a d k)
    → installs_in (turn a k).steps ≡ Some i → (turn a k).after.votes ≡ Some both
    → AreVotesOf S ((W.memberships.node (turn a k).after.newest).showed (turn a k).after.plan.epoch) both
    → All calls.IsDevice a.plan.attached → membership.Allowed S W.memberships (count_of (turn a k).after)
    → CountGoes S c W n (count_of (turn a k).after) devices (record_of (installing c n (going x a k) s [] i)) (Up (installing c n (going x a k) s [] i)) i

-- A node begins an attempt of its own: it promises its number, and where it is alone all have promised.
abbrev pub BeginsGo : Type 0
BeginsGo = (S : Setting) (c : Cluster) (W : Whole) (n p members : ℕ) (x : UpNode) (devices : Devices) → IsReached S W → DevicesTied c devices W → UpAt c W n x → p % 64 ≡ n
    → All calls.IsDevice c.attached → AreApart (numbers_of c.attached) → membership.Allowed S W.memberships (membership.Begin p (is_member members))
    → MachineHas (membership.after W.memberships (membership.Begin p (is_member members))) (beginning p members (own_promise n (leading_so x p) p) c.attached c.id).after
    → MembershipGoes S c W n (membership.Begin p (is_member members)) devices (record_of (begun_by c n (leading_so x p) p members)) (Up (begun_by c n (leading_so x p) p members))

-- Before a plain seizing registers the node's key, its record says that the key there is not validated: this is a step of the task.
abbrev pub DistrustsGo : Type 0
DistrustsGo = (S : Setting) (c : Cluster) (W : Whole) (n d : ℕ) (x : UpNode) (devices : Devices) → IsReached S W → IsDevice d → IsDevices (record_of x).valid → DevicesTied c devices W → UpAt c W n x
    → begins_plainly x.tasks ≡ Some d → has (record_of x).valid d ≡ true → DeviceGoes S c W n devices (distrusting x d)

-- What a node does apart from devices.

-- One that boots, whose session is past, has begun nothing.
abbrev pub BootsGo : Type 0
BootsGo = (S : Setting) (c : Cluster) (W : Whole) (n first_valid : ℕ) (disk : NodeRecord) → IsReached S W → (W.memberships.node n).session ≡ 0 → NodeAt c W n disk Down
    → UpAt c W n (up_with n first_valid disk)

-- An act in memory that is of no device, and of no attempt but its end
abbrev pub IsApart : Act → Type 0
IsApart (Hears from b) = Unit {0}
IsApart Ticks = Unit {0}
IsApart Waits = Unit {0}
IsApart (Ends a e) = Unit {0}
IsApart (Writes to b) = Unit {0}
IsApart (Gives os) = Unit {0}
IsApart (Spreads receivers b) = Unit {0}
IsApart (Minds requests office) = Unit {0}
IsApart (Notes from place office) = Unit {0}
IsApart (Dates now) = Unit {0}
IsApart (Works worker) = Unit {0}
IsApart _ = ⊥

abbrev pub RestsGo : Type 0
RestsGo = (c : Cluster) (W : Whole) (n : ℕ) (x : UpNode) (act : Act) → IsApart act → UpAt c W n x → UpAt c W n (acted c n x act)

-- A membership starts, and a node sits in it, which no device takes part in.
abbrev pub StartsGo : Type 0
StartsGo = (S : Setting) (c : Cluster) (W : Whole) (n q : ℕ) (x : UpNode) (a : AttemptState) (s : NodeState) (devices : Devices) → DevicesTied c devices W → UpAt c W n x
    → x.seat ≡ Forming s → coordinator q ≡ n → membership.Allowed S W.memberships (membership.Start q)
    → MembershipGoes S c W n (membership.Start q) devices (record_of (starting_as c n x a s)) (Up (starting_as c n x a s))

abbrev pub SitsGo : Type 0
SitsGo = (S : Setting) (c : Cluster) (W : Whole) (n q : ℕ) (x : UpNode) (s : NodeState) (devices : Devices) → DevicesTied c devices W → UpAt c W n x → x.seat ≡ Forming s
    → membership.Allowed S W.memberships (membership.Join n q) → MembershipGoes S c W n (membership.Join n q) devices (record_of (sitting x s)) (Up (sitting x s))

-- Updates, which no device takes part in.

-- A president proposes an update, or goes down in the save of it; and acknowledges it, whatever requests it has then, and whatever is in its hand.
abbrev pub ProposesGo : Type 0
ProposesGo = (S : Setting) (c : Cluster) (W : Whole) (n q : ℕ) (x : UpNode) (p : Presidency) (text : List ℕ) (devices : Devices) → DevicesTied c devices W → UpAt c W n x → coordinator q ≡ n
    → membership.Allowed S W.memberships (membership.Propose q text)
    → MembershipGoes S c W n (membership.Propose q text) devices (record_of (proposed_by c n x p text)) (Up (proposed_by c n x p text))

abbrev pub ProposalsAreLost : Type 0
ProposalsAreLost = (S : Setting) (c : Cluster) (W : Whole) (n q : ℕ) (text : List ℕ) (disk : NodeRecord) (node : Node) (devices : Devices) → DevicesTied c devices W → NodeAt c W n disk node
    → IsKept disk node → coordinator q ≡ n → membership.Allowed S W.memberships (membership.Propose_lost q text)
    → MembershipGoes S c W n (membership.Propose_lost q text) devices disk Down

abbrev pub AcknowledgesGo : Type 0
AcknowledgesGo = (S : Setting) (c : Cluster) (W : Whole) (n q : ℕ) (x : UpNode) (requests : Queue) (office : Option Presidency) (devices : Devices) → DevicesTied c devices W → UpAt c W n x
    → coordinator q ≡ n → membership.Allowed S W.memberships (membership.Acknowledge q)
    → MembershipGoes S c W n (membership.Acknowledge q) devices (record_of (minded (committing x) requests office)) (Up (minded (committing x) requests office))

-- A member has one more update, and commits what is pending.
abbrev pub PreparesGo : Type 0
PreparesGo = (S : Setting) (c : Cluster) (W : Whole) (n q : ℕ) (x : UpNode) (s : NodeState) (text : List ℕ) (devices : Devices) → DevicesTied c devices W → UpAt c W n x → x.seat ≡ Member s
    → membership.Allowed S W.memberships (membership.Prepare n q text)
    → MembershipGoes S c W n (membership.Prepare n q text) devices (record_of (prepared_so c x s text)) (Up (prepared_so c x s text))

abbrev pub CommitsGo : Type 0
CommitsGo = (S : Setting) (c : Cluster) (W : Whole) (n q : ℕ) (x : UpNode) (s : NodeState) (devices : Devices) → DevicesTied c devices W → UpAt c W n x → x.seat ≡ Member s
    → membership.Allowed S W.memberships (membership.Commit n q)
    → MembershipGoes S c W n (membership.Commit n q) devices (record_of (committed_so x s)) (Up (committed_so x s))

-- The others.

-- a node's attempt is its own
abbrev pub IsOf : ℕ → Option AttemptState → Type 0
IsOf k None = Unit {0}
IsOf k (Some a) = coordinator a.plan.epoch ≡ k

abbrev pub OwnsAttempt : ℕ → Node → Type 0
OwnsAttempt k Down = Unit {0}
OwnsAttempt k (Up x) = IsOf k x.attempt

-- What one node does leaves each other as it is, and the whole is reached again.
abbrev pub OthersStay : Type 0
OthersStay = (S : Setting) (c : Cluster) (W V : Whole) (n k : ℕ) (disk : NodeRecord) (node : Node) → IsReached S W → Moves S W n V → k ≢ n → OwnsAttempt k node → NodeAt c W k disk node
    → NodeAt c V k disk node

abbrev pub ReachedStays : Type 0
ReachedStays = (S : Setting) (W V : Whole) (n : ℕ) → IsReached S W → Moves S W n V → IsReached S V

-- At first.

-- the nodes that are registered on a device of the schedule's header
abbrev pub registered_by : DeviceKind → ℕ → ℕ → ℕ → Bool
registered_by Quorum attached configured n = is_member configured n && has attached n
registered_by _ attached configured n = false

abbrev pub FirstDevicesAreTied : Type 0
FirstDevicesAreTied = (kind : DeviceKind) (attached configured cluster : ℕ) → DeviceTied cluster (first_device_of kind attached configured cluster) (machine.first_device (registered_by kind attached configured))

-- With such devices, and each node down with the record of its disk, all is the machine's first state.
pub record IsFirst (S : Setting) (c : Cluster) (devices : Devices) (disk : ℕ → NodeRecord) (W : Whole) : Type 0 where
  pub reached : IsReached S W
  pub devices_so : DevicesTied c devices W
  pub at : (n : ℕ) → NodeAt c W n (disk n) Down

abbrev pub FirstIsTied : Type 0
FirstIsTied = (S : Setting) (c : Cluster) (registered valid : ℕ → ℕ → Bool) (devices : Devices) (disk : ℕ → NodeRecord) → ((d : ℕ) → DeviceTied c.id (devices d) (machine.first_device (registered d)))
    → ((d n : ℕ) → valid d n ≡ has (disk n).valid d) → IsFirst S c devices disk (first_whole registered valid)

-- What is so of each state that is reached: attempts meet at a device with votes that both held, Lineage, Kept, and that no attempt that counted with
-- a device held is above the session of a node that joined the device and may write there.
pub record IsSafe (S : Setting) (W : Whole) : Type 0 where
  pub devices_meet : DevicesMeet S W.memberships
  pub lineage : (q : ℕ) → (W.memberships.epoch q).counted ≡ true → Follows W.memberships q (last_start W.memberships q)
  pub first_empty : (q : ℕ) → (W.memberships.epoch q).counted ≡ true → last_start W.memberships q ≡ 0 → (W.memberships.epoch q).base ≡ []
  pub kept : (e q : ℕ) → (W.memberships.epoch e).started ≡ true → e < q → (W.memberships.epoch q).counted ≡ true
      → Alike (W.memberships.epoch e).acked (W.memberships.epoch e).log (W.memberships.epoch q).base
  pub none_above : (d n f : ℕ) → sharing.Writes (W.device d) n → (W.memberships.epoch f).counted ≡ true → (W.memberships.epoch f).holds d ≡ true → f ≤ (W.memberships.node n).session

abbrev pub ReachedIsSafe : Type 0
ReachedIsSafe = (S : Setting) (W : Whole) → IsReached S W → IsSafe S W

-- The disk rule: where a device, as it is, takes a write of a member that has joined it, the member is of a membership that started and holds the
-- device, and no greater attempt counted a majority with it held.
abbrev pub WritesAreSafe : Type 0
WritesAreSafe = (S : Setting) (c : Cluster) (W : Whole) (n d value : ℕ) (x : UpNode) (devices : Devices) → IsReached S W → DevicesTied c devices W → UpAt c W n x
    → (W.memberships.node n).member ≡ true → has (state_of x.seat).joined d ≡ true → (spc.step (devices d) n (command.Write value)).answer ≡ given.Good → WriteIsSafe W d n
