-- What each node keeps, and what was sent, of members and of lists of updates.
use Rattle.std.specs.Prelude.{ℕ, ◌≡◌, ◌≤◌, All, true, List, Option, None, Some, IfSome}
use Rattle.std.specs.List.{AllByRecursion}
use Rattle.attempt_laws.specs.Sending.{AsksEntry, IsOwnStep}
use Rattle.cl_base.specs.Sets.{has}
use Rattle.cmm_attempt.specs.Attempts.{AttemptState}
use Rattle.cmm_attempt.specs.declared.attached.AttachedDevice.{AttachedDevice}
use Rattle.cmm_attempt.specs.declared.seizing.Seizing.{Seizing}
use Rattle.heartbeats.specs.Peers.{peer_in}
use Rattle.heartbeats.specs.Views.{is_heard}
use Rattle.heartbeats.specs.declared.peer.Peer.{Peer}
use Rattle.interconnect.specs.Links.{Packet}
use Rattle.node_model.specs.Seats.{record_of}
use Rattle.node_model.specs.declared.cluster.Cluster.{Cluster}
use Rattle.node_model.specs.declared.node.Node.{Node}
use Rattle.node_model.specs.declared.node.Node.TheVariants.{Down, Up}
use Rattle.node_model.specs.declared.node.UpNode.{UpNode}
use Rattle.node_model.specs.declared.output.Output.{Output}
use Rattle.node_model.specs.declared.output.Output.TheVariants.{Sends, Tells}
use Rattle.refinement.specs.Doings.{Site, site}
use Rattle.refinement.specs.Runs.{Letter, Nodes}
use Rattle.refinement.specs.Ties.{Delivered, IsLog}
use Rattle.run_attempts.specs.Steps.{Wish}
use Rattle.run_history.specs.Guards.{Hand}
use Rattle.run_history.specs.Scenes.{Scene}
use Rattle.wire.specs.Reads.{whole_of}
use Rattle.wire.specs.declared.message.Body.{Body}
use Rattle.wire.specs.declared.message.Body.TheVariants as body
use Rattle.wire.specs.declared.message.Message.{Message}

-- each number of the set is that of a node
abbrev pub InNodes : Cluster → ℕ → Type 0
InNodes c set = (m : ℕ) → has set m ≡ true → has c.nodes m ≡ true

-- ---- seizing

abbrev pub IsKnown : Cluster → ℕ → Type 0
IsKnown c d = has c.devices d ≡ true

abbrev pub IsMemberOf : ℕ → ℕ → Type 0
IsMemberOf members n = has members n ≡ true

-- the device is one of the cluster, and who is asked is a member
abbrev pub EntryKnown : Cluster → ℕ → Seizing → Type 0
EntryKnown c members e = IsKnown c e.attached.device × IfSome e.seizer (IsMemberOf members)

abbrev pub AttachedKnown : Cluster → List AttachedDevice → Type 0
AttachedKnown c attached = AllByRecursion (λ (a : AttachedDevice). IsKnown c a.device) attached

pub record PartsKnown (c : Cluster) (members : ℕ) (nodes : List ℕ) (attached : List AttachedDevice) (devices : List Seizing) : Type 0 where
  pub nodes_so : AllByRecursion (IsMemberOf members) nodes
  pub attached_so : AttachedKnown c attached
  pub devices_so : AllByRecursion (EntryKnown c members) devices

abbrev pub AttemptKnown : Cluster → AttemptState → Type 0
AttemptKnown c s = PartsKnown c s.plan.members s.plan.nodes s.plan.attached s.devices

-- ---- messages

-- a request to seize goes to a member, and is for a device of the cluster
abbrev pub BodyTo : Cluster → ℕ → Body → Type 0
BodyTo c to (body.SeizeQuorum e members d) = IsMemberOf members to × IsKnown c d
BodyTo c to (body.SeizeData e members d) = IsMemberOf members to × IsKnown c d
BodyTo c to b = Unit {0}

abbrev pub PacketTo : Cluster → Packet → Type 0
PacketTo c x = (m : Message) → whole_of x.bytes ≡ Some m → BodyTo c x.to m.body

abbrev pub BodyNamed : Cluster → Body → Type 0
BodyNamed c (body.Collect e members) = InNodes c members
BodyNamed c (body.Promise e installed members valid flagged committed pending) = InNodes c members × IsLog c committed pending
BodyNamed c (body.SeizeQuorum e members d) = InNodes c members
BodyNamed c (body.SeizeData e members d) = InNodes c members
BodyNamed c (body.Install i) = InNodes c i.members × IsLog c i.committed i.pending
BodyNamed c _ = Unit {0}

abbrev pub OutputNamed : Cluster → Output → Type 0
OutputNamed c (Tells e) = Unit {0}
OutputNamed c (Sends to b) = BodyNamed c b × BodyTo c to b

abbrev pub AllNamed : Cluster → List Output → Type 0
AllNamed c os = AllByRecursion (OutputNamed c) os

abbrev pub LetterNamed : Cluster → Letter → Type 0
LetterNamed c l = (has c.nodes l.from ≡ true) × BodyNamed c l.body

-- the packet in hand, and its sender
abbrev pub HandNamed : Cluster → Delivered → Type 0
HandNamed c None = Unit {0}
HandNamed c (Some d) = (has c.nodes d.0 ≡ true) × BodyNamed c d.1.body

-- ---- nodes

abbrev pub AttemptNamed : Cluster → Option AttemptState → Type 0
AttemptNamed c None = Unit {0}
AttemptNamed c (Some a) = InNodes c a.plan.members × AttemptKnown c a

pub record MemoryNamed (c : Cluster) (n members : ℕ) (attempt : Option AttemptState) (me : ℕ) (peers : List (Option Peer)) (view : Option ℕ) : Type 0 where
  pub node : has c.nodes n ≡ true
  pub attached_known : AttachedKnown c c.attached
  pub members_so : InNodes c members
  pub attempt_so : AttemptNamed c attempt
  pub me_so : has c.nodes me ≡ true
  pub peers_so : (m : ℕ) → 1 ≤ m → m ≤ 32 → is_heard (peer_in peers m) ≡ true → has c.nodes m ≡ true
  pub view_so : IfSome view (InNodes c)

abbrev pub UpNamed : Cluster → ℕ → UpNode → Type 0
UpNamed c n x = MemoryNamed c n (record_of x).members x.attempt x.beats.me x.beats.peers x.beats.view

abbrev pub NodeNamed : Cluster → ℕ → Node → Type 0
NodeNamed c n Down = Unit {0}
NodeNamed c n (Up x) = UpNamed c n x

pub record SiteNamed (c : Cluster) (n : ℕ) (x : Site) : Type 0 where
  pub disk_so : InNodes c x.disk.members
  pub node_so : NodeNamed c n x.node

-- all nodes, their disks, and all that was ever sent
pub record RunNamed (c : Cluster) (v : Nodes) : Type 0 where
  pub sites : (n : ℕ) → SiteNamed c n (site (v.node n) (v.disk n).kept)
  pub sent : AllByRecursion (LetterNamed c) v.sent

-- .. and what is in flight
pub record SceneNamed (c : Cluster) (s : Scene) : Type 0 where
  pub nodes : RunNamed c s.nodes
  pub flying : AllByRecursion (PacketTo c) s.links.packets

-- ---- in a step

-- the steps that the attempt gave last are of these members
abbrev pub TurnNamed : Cluster → Hand → Type 0
TurnNamed c None = Unit {0}
TurnNamed c (Some u) = InNodes c u.after.plan.members × All (IsOwnStep u.after) u.steps × AttemptKnown c u.after × All (AsksEntry u.after) u.steps

-- an attempt begins with the view
abbrev pub WithView : Wish
WithView x p members = x.beats.view ≡ Some members

-- after a small step: the node with its disk, what the attempt gave last, and what was given
pub record Leaves (c : Cluster) (n : ℕ) (x : Site) (g : Hand) (os : List Output) : Type 0 where
  pub site_so : SiteNamed c n x
  pub turn_so : TurnNamed c g
  pub outputs_so : AllNamed c os
