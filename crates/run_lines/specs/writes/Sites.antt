-- What is known of a node in each of its small steps, and what is asked of these.
use Rattle.std.specs.Prelude.{ℕ, ◌≡◌, ◌≢◌, ◌<◌, true, false, List, [], ◌∷◌, Option, None, Some, Ok, find}
use Rattle.std.specs.List.{AllByRecursion}
use Rattle.attempt_laws.specs.Machine.{is_member}
use Rattle.attempt_laws.specs.Staying.{IsBefore}
use Rattle.cl_base.specs.Numbers.{numbers_to}
use Rattle.cmm_attempt.specs.Attempts.{AttemptState}
use Rattle.cmm_attempt.specs.declared.phase.Phase.TheVariants.{Installing}
use Rattle.cmm_attempt.specs.declared.phase.Readied.{Readied}
use Rattle.device_queue.specs.Queue.{joins, progress_after}
use Rattle.device_queue.specs.Tasks.{command_in, is_joining, is_queued}
use Rattle.device_queue.specs.declared.progress.Progress.{Progress}
use Rattle.device_queue.specs.declared.progress.Progress.TheVariants as progress
use Rattle.device_queue.specs.declared.task.Task.{Task}
use Rattle.history.specs.Deeds.{Deed, Started}
use Rattle.node_model.specs.Clusters.{has_path}
use Rattle.node_model.specs.Seats.{installed_of, record_of, session_of}
use Rattle.node_model.specs.declared.cluster.Cluster.{Cluster}
use Rattle.node_model.specs.declared.node.Node.{Node}
use Rattle.node_model.specs.declared.node.Node.TheVariants.{Down, Up}
use Rattle.node_model.specs.declared.node.UpNode.{UpNode}
use Rattle.node_model.specs.declared.output.Output.{Output}
use Rattle.node_model.specs.declared.output.Output.TheVariants.{Sends, Tells}
use Rattle.pgr_device.specs.declared.command.PrAnswer.TheVariants as given
use Rattle.pgr_device.specs.declared.command.PrCommand.{PrCommand}
use Rattle.pgr_device.specs.declared.command.PrCommand.TheVariants as command
use Rattle.cmm_member.specs.Records.{NodeRecord}
use Rattle.refinement.specs.Doings.{Act, Change, Doing, Site, effect}
use Rattle.refinement.specs.Doings.Act.{Makes, Takes}
use Rattle.refinement.specs.Doings.Change.{Admits}
use Rattle.refinement.specs.Doings.Doing.{Does, Saves}
use Rattle.refinement.specs.Facts.{Facts}
use Rattle.refinement.specs.Guards.{OfUp}
use Rattle.refinement.specs.Ties.{Delivered}
use Rattle.seize.specs.Answers.{Answer}
use Rattle.seize.specs.declared.kind.JoinResult.TheVariants as join
use Rattle.status_report.specs.declared.entry.Entry.{Entry}
use Rattle.status_report.specs.declared.entry.Entry.TheVariants as entry
use Rattle.status_report.specs.declared.device_entry.DeviceEntry.TheVariants as device
use Rattle.status_report.specs.declared.node_entry.NodeEntry.TheVariants as note
use Rattle.wire.specs.Spelling.{IsDevice}
use Rattle.wire.specs.declared.message.Body.{Body}
use Rattle.wire.specs.declared.message.Body.TheVariants as body
use Rattle.run_lines.specs.writes.Joins.{SiteDone}

-- ---- by the tie with the machine

-- its attempt is its own
abbrev pub PlanIn : ℕ → Option AttemptState → Type 0
PlanIn n None = Unit {0}
PlanIn n (Some a) = (a.plan.coordinator ≡ n) × (a.plan.nodes ≡ numbers_to a.plan.members 32)

abbrev pub FactsAt : ℕ → Node → NodeRecord → Type 0
FactsAt n Down disk = Unit {0}
FactsAt n (Up x) disk = Facts x × (disk ≡ record_of x) × PlanIn n x.attempt

-- ---- the answer to a command

-- what a device with a path to the node answers in a joining
abbrev pub IsFine : PrCommand → Answer → Type 0
IsFine (command.Ignore key) (Ok given.Good) = Unit {0}
IsFine (command.Ignore key) (Ok _) = ⊥
IsFine command.Word (Ok (given.Word w)) = Unit {0}
IsFine command.Word (Ok _) = ⊥
IsFine _ _ = Unit {0}

-- The command of the first task that is queued is answered; in a session that the node has installed the task is a joining.
pub record TakeSo (c : Cluster) (n : ℕ) (x : UpNode) (at : ℕ) (k : PrCommand) (a : Answer) : Type 0 where
  pub task : Task
  pub first : find is_queued x.tasks ≡ Some task
  pub device : task.device ≡ at
  pub due : command_in task.work ≡ Some k
  pub place : IsDevice at
  pub joins : 0 < session_of x → installed_of x ≡ session_of x → is_joining task.work ≡ true
  pub fine : has_path c.attached n at ≡ true → IsFine k a

abbrev pub NotJoined : Progress → Type 0
NotJoined (progress.Joined d join.Joined) = ⊥
NotJoined p = Unit {0}

abbrev pub ChangeTakes : Cluster → ℕ → UpNode → Change → Type 0
ChangeTakes c n x (Admits at k a d) = TakeSo c n x at k a × (progress_after x.tasks a ≡ progress.Joined d join.Joined)
ChangeTakes c n x change = Unit {0}

abbrev pub ActTakes : Cluster → ℕ → UpNode → Act → Type 0
ActTakes c n x (Takes at k a) = TakeSo c n x at k a × NotJoined (progress_after x.tasks a)
ActTakes c n x (Makes change) = ChangeTakes c n x change
ActTakes c n x act = Unit {0}

abbrev pub DoingTakes : Cluster → ℕ → Site → Doing → Type 0
DoingTakes c n x (Does a) = OfUp (λ y. ActTakes c n y a) x.node
DoingTakes c n x (Saves change) = OfUp (λ y. ChangeTakes c n y change) x.node
DoingTakes c n x d = Unit {0}

abbrev pub AllTake : Cluster → ℕ → Site → List Doing → Type 0
AllTake c n x [] = Unit {0}
AllTake c n x (d ∷ ds) = DoingTakes c n x d × AllTake c n (effect c n x d) ds

-- ---- nodes that are ready: K tells of which nodes, in which sessions

abbrev pub Ready : Type 1
Ready = ℕ → ℕ → Type 0

pub record AttemptSo (K : Ready) (tasks : List Task) (a : AttemptState) : Type 0 where
  pub readies : AllByRecursion (λ (r : Readied). K r.node a.plan.epoch) a.readies
  pub before : IsBefore a.phase → a.own_ready ≡ false
  pub own : a.phase ≡ Installing → a.own_ready ≡ true → joins tasks ≡ false

abbrev pub AttemptIn : Ready → List Task → Option AttemptState → Type 0
AttemptIn K tasks None = Unit {0}
AttemptIn K tasks (Some a) = AttemptSo K tasks a

abbrev pub NodeReady : Ready → Node → Type 0
NodeReady K Down = Unit {0}
NodeReady K (Up x) = AttemptIn K x.tasks x.attempt

-- a Ready tells that its sender is
abbrev pub TellsReady : Ready → ℕ → Body → Type 0
TellsReady K from (body.Ready p devices report) = K from p
TellsReady K from b = Unit {0}

abbrev pub HandReady : Ready → Delivered → Type 0
HandReady K None = Unit {0}
HandReady K (Some d) = TellsReady K d.0 d.1.body

-- what a node gives that is y then
abbrev pub BodySaid : Body → Site → Type 0
BodySaid (body.Ready p devices report) y = SiteDone y p
BodySaid b y = Unit {0}

abbrev pub OutputReady : Site → Output → Type 0
OutputReady y (Tells e) = Unit {0}
OutputReady y (Sends to b) = BodySaid b y

-- a start is of members that are ready; of node n, which is y then, it is said by itself
abbrev pub DeedReady : Ready → ℕ → Site → Deed → Type 0
DeedReady K n y (Started s updates) = (m : ℕ) → is_member s.members m ≡ true → (m ≢ n → K m s.epoch) × (m ≡ n → SiteDone y s.epoch)
DeedReady K n y d = Unit {0}

-- ---- what is given

-- no key is registered by it, and no word read
abbrev pub PlainCommand : PrCommand → Type 0
PlainCommand (command.Ignore key) = ⊥
PlainCommand command.Word = ⊥
PlainCommand k = Unit {0}

-- it says nothing of what the node has joined
abbrev pub PlainEntry : Entry → Type 0
PlainEntry (entry.Device (device.Command m d k a)) = PlainCommand k
PlainEntry (entry.Node m (note.Installed e)) = ⊥
PlainEntry e = Unit {0}

-- neither an Install nor a Ready
abbrev pub PlainBody : Body → Type 0
PlainBody (body.Install i) = ⊥
PlainBody (body.Ready p devices report) = ⊥
PlainBody b = Unit {0}

abbrev pub IsPlain : Output → Type 0
IsPlain (Tells e) = PlainEntry e
IsPlain (Sends to b) = PlainBody b

abbrev pub ArePlain : List Output → Type 0
ArePlain os = AllByRecursion IsPlain os
