-- What each node keeps, and what was sent, of devices: those of the header alone; and of answers: those that can be read.
use Rattle.std.specs.Prelude.{ℕ, ◌≡◌, ◌≤◌, ◌<◌, ◌^◌, All, true, List, length, Option, None, Some, IfSome}
use Rattle.std.specs.List.{AllByRecursion}
use Rattle.attempt_laws.specs.Sending.{AsksEntry}
use Rattle.cl_base.specs.Seizings.{SeizeResult}
use Rattle.cl_base.specs.Sets.{has}
use Rattle.cl_base.specs.declared.seizing.SeizeEnd.TheVariants as end
use Rattle.cmm_attempt.specs.Attempts.{AttemptState}
use Rattle.cmm_member.specs.Nodes.{NodeState}
use Rattle.device_queue.specs.declared.task.Task.{Task}
use Rattle.device_queue.specs.declared.task.Work.{Work}
use Rattle.device_queue.specs.declared.task.Work.TheVariants as work
use Rattle.interconnect.specs.Links.{Packet}
use Rattle.node_model.specs.Seats.{state_of}
use Rattle.node_model.specs.declared.cluster.Cluster.{Cluster}
use Rattle.node_model.specs.declared.node.Node.{Node}
use Rattle.node_model.specs.declared.node.Node.TheVariants.{Down, Up}
use Rattle.node_model.specs.declared.node.UpNode.{UpNode}
use Rattle.node_model.specs.declared.output.Output.{Output}
use Rattle.node_model.specs.declared.output.Output.TheVariants.{Sends, Tells}
use Rattle.node_model.specs.declared.presidency.Presidency.{Presidency}
use Rattle.proposals.specs.declared.arrived.Kept.{Kept}
use Rattle.refinement.specs.Doings.{Site, site}
use Rattle.refinement.specs.Runs.{Letter, Nodes}
use Rattle.refinement.specs.Ties.{Delivered}
use Rattle.run_history.specs.Guards.{Hand}
use Rattle.run_history.specs.Scenes.{Scene}
use Rattle.run_packets.specs.native.Named.{AttachedKnown, AttemptKnown, IsKnown, IsMemberOf}
use Rattle.seize.specs.declared.step.SeizeStep.{SeizeStep}
use Rattle.seize.specs.declared.step.SeizeStep.TheVariants as seize
use Rattle.wire.specs.Reads.{whole_of}
use Rattle.wire.specs.declared.lists.Reading.{Reading}
use Rattle.wire.specs.declared.message.Body.{Body}
use Rattle.wire.specs.declared.message.Body.TheVariants as body
use Rattle.wire.specs.declared.message.Message.{Message}
use Rattle.run_packets.specs.admitted.Refusals.{IsReadable}

-- each number of the set is that of a device
abbrev pub InDevices : Cluster → ℕ → Type 0
InDevices c set = (d : ℕ) → has set d ≡ true → has c.devices d ≡ true

-- what the cluster knows of its devices
pub record DevicesKnown (c : Cluster) : Type 0 where
  pub attached : AttachedKnown c c.attached
  pub small : c.devices < 2 ^ 32

-- ---- keys

-- at most as many as there are nodes
abbrev pub AreFew : List ℕ → Type 0
AreFew keys = length keys ≤ 32

abbrev pub ResultFew : SeizeResult → Type 0
ResultFew (end.Held keys) = AreFew keys
ResultFew (end.NotRegistered keys) = AreFew keys
ResultFew _ = Unit {0}

-- what a seizing has read, or how it ended
abbrev pub StepFew : SeizeStep → Type 0
StepFew (seize.Confirm keys) = AreFew keys
StepFew (seize.Ended result) = ResultFew result
StepFew _ = Unit {0}

abbrev pub WorkFew : Work → Type 0
WorkFew (work.Seizing s) = StepFew s.step
WorkFew (work.Joining j) = Unit {0}

-- ---- messages

-- the device that was read is one of the cluster, and who read it is a member
abbrev pub ReadingKnown : Cluster → ℕ → Reading → Type 0
ReadingKnown c members r = IsKnown c r.device × IsMemberOf members r.seizer

abbrev pub ReadingsKnown : Cluster → ℕ → List Reading → Type 0
ReadingsKnown c members readings = AllByRecursion (ReadingKnown c members) readings

abbrev pub BodyKnown : Cluster → Body → Type 0
BodyKnown c (body.Promise e installed members valid flagged committed pending) = InDevices c valid
BodyKnown c (body.SeizeQuorum e members d) = IsKnown c d
BodyKnown c (body.SeizeData e members d) = IsKnown c d
BodyKnown c (body.Seized e d r) = IsKnown c d × ResultFew r
BodyKnown c (body.Install i) = ReadingsKnown c i.members i.readings
BodyKnown c (body.Ready e joined report) = InDevices c joined
BodyKnown c (body.Answer e number text) = IsReadable text
BodyKnown c _ = Unit {0}

-- an Install goes to a member
abbrev pub BodyTo : ℕ → Body → Type 0
BodyTo to (body.Install i) = IsMemberOf i.members to
BodyTo to _ = Unit {0}

abbrev pub PacketTo : Packet → Type 0
PacketTo x = (m : Message) → whole_of x.bytes ≡ Some m → BodyTo x.to m.body

abbrev pub OutputKnown : Cluster → Output → Type 0
OutputKnown c (Tells e) = Unit {0}
OutputKnown c (Sends to b) = BodyKnown c b × BodyTo to b

abbrev pub AllKnown : Cluster → List Output → Type 0
AllKnown c os = AllByRecursion (OutputKnown c) os

abbrev pub LetterKnown : Cluster → Letter → Type 0
LetterKnown c l = BodyKnown c l.body

-- the packet in hand
abbrev pub HandKnown : Cluster → Delivered → Type 0
HandKnown c None = Unit {0}
HandKnown c (Some d) = BodyKnown c d.1.body

-- ---- nodes

pub record StateKnown (c : Cluster) (s : NodeState) : Type 0 where
  pub valid_so : InDevices c s.saved.valid
  pub joined_so : InDevices c s.joined

abbrev pub TaskKnown : Cluster → Task → Type 0
TaskKnown c t = IsKnown c t.device × WorkFew t.work

abbrev pub TasksKnown : Cluster → List Task → Type 0
TasksKnown c tasks = AllByRecursion (TaskKnown c) tasks

-- an answer that a president keeps can be read
abbrev pub KeptGood : Option Kept → Type 0
KeptGood o = IfSome o (λ k. IsReadable k.text)

abbrev pub AnswersGood : Option Presidency → Type 0
AnswersGood None = Unit {0}
AnswersGood (Some p) = All KeptGood p.proposals.answers

pub record MemoryKnown (c : Cluster) (s : NodeState) (tasks : List Task) (attempt : Option AttemptState) (office : Option Presidency) : Type 0 where
  pub state_so : StateKnown c s
  pub tasks_so : TasksKnown c tasks
  pub attempt_so : IfSome attempt (AttemptKnown c)
  pub office_so : AnswersGood office

abbrev pub UpKnown : Cluster → UpNode → Type 0
UpKnown c x = MemoryKnown c (state_of x.seat) x.tasks x.attempt x.presidency

abbrev pub NodeKnown : Cluster → Node → Type 0
NodeKnown c Down = Unit {0}
NodeKnown c (Up x) = UpKnown c x

pub record SiteKnown (c : Cluster) (x : Site) : Type 0 where
  pub disk_so : InDevices c x.disk.valid
  pub node_so : NodeKnown c x.node

-- all nodes, their disks, and all that was ever sent
pub record RunKnown (c : Cluster) (v : Nodes) : Type 0 where
  pub sites : (n : ℕ) → SiteKnown c (site (v.node n) (v.disk n).kept)
  pub sent : AllByRecursion (LetterKnown c) v.sent

-- .. and what is in flight
pub record SceneKnown (c : Cluster) (s : Scene) : Type 0 where
  pub nodes : RunKnown c s.nodes
  pub flying : AllByRecursion PacketTo s.links.packets

-- ---- in a step

-- the steps that the attempt gave last ask for its entries
abbrev pub TurnKnown : Cluster → Hand → Type 0
TurnKnown c None = Unit {0}
TurnKnown c (Some u) = AttemptKnown c u.after × All (AsksEntry u.after) u.steps

-- after a small step: the node with its disk, what the attempt gave last, and what was given
pub record Leaves (c : Cluster) (x : Site) (g : Hand) (os : List Output) : Type 0 where
  pub site_so : SiteKnown c x
  pub turn_so : TurnKnown c g
  pub outputs_so : AllKnown c os
