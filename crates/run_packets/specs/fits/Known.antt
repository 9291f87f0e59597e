-- What else is known of the small steps of a node, and what its record keeps to.
use Rattle.std.specs.Prelude.{ℕ, ◌≡◌, ◌<◌, ◌^◌, true, List, [], ◌∷◌, None, Some, IfSome}
use Rattle.std.specs.List.{AllByRecursion, list_all}
use Rattle.cl_base.specs.Sets.{has}
use Rattle.cl_base.specs.declared.panic.Panic.TheVariants as panic
use Rattle.cmm_attempt.specs.Attempts.{AttemptState}
use Rattle.cmm_member.specs.Records.{NodeRecord}
use Rattle.node_model.specs.Members.{is_known_reading}
use Rattle.node_model.specs.Ticks.{later}
use Rattle.node_model.specs.declared.cluster.Cluster.{Cluster}
use Rattle.node_model.specs.declared.node.Node.{Node}
use Rattle.node_model.specs.declared.node.Node.TheVariants.{Down, Up}
use Rattle.node_model.specs.declared.node.UpNode.{UpNode}
use Rattle.refinement.specs.Courses.{Course}
use Rattle.refinement.specs.Courses.Course.{Acts, Falls, Keeps, Stops}
use Rattle.refinement.specs.Doings.{Act, Change, Doing, Site, acted, changed, effect}
use Rattle.refinement.specs.Doings.Act.{Gives, Makes, Ticks}
use Rattle.refinement.specs.Doings.Change.{Admits, Counts, Leads}
use Rattle.refinement.specs.Doings.Doing.{Comes_up, Does, Forgets, Goes_down, Loses, Saves}
use Rattle.refinement.specs.Ties.{Delivered}
use Rattle.run_history.specs.Names.{AttemptNames, IsListed}
use Rattle.run_history.proofs.Ordinary.{GivesAside}
use Rattle.run_packets.specs.native.Named.{InNodes}
use Rattle.status_report.specs.declared.node_entry.DownCause.{DownCause}
use Rattle.status_report.specs.declared.node_entry.DownCause.TheVariants as cause
use Rattle.wire.specs.declared.message.Body.{Body}
use Rattle.wire.specs.declared.message.Body.TheVariants as body

-- ---- small steps

-- an attempt begins with the view, and a number below 2^63; what is installed of devices, and joined, is of the cluster
abbrev pub KnownChange : Cluster → UpNode → Change → Type 0
KnownChange c x (Leads p members) = (p < 2 ^ 63) × (x.beats.view ≡ Some members)
KnownChange c x (Counts a k s i) = AttemptNames (IsListed c) a
KnownChange c x (Admits at command a d) = IsListed c d
KnownChange c x _ = Unit {0}

-- the view has nodes of the cluster, and lines that are given by themselves are of commands, calls and clients
abbrev pub KnownAct : Cluster → UpNode → Act → Type 0
KnownAct c x Ticks = IfSome (later c x).beats.view (InNodes c)
KnownAct c x (Makes change) = KnownChange c x change
KnownAct c x (Gives os) = AllByRecursion GivesAside os
KnownAct c x _ = Unit {0}

-- a node goes down by its own step for other causes than its disk
abbrev pub FallsSo : DownCause → Type 0
FallsSo (cause.Panic panic.Disk) = ⊥
FallsSo _ = Unit {0}

abbrev pub KnownCourse : Cluster → ℕ → UpNode → Course → Type 0
KnownCourse c n x Stops = Unit {0}
KnownCourse c n x (Acts a rest) = KnownAct c x a × KnownCourse c n (acted c n x a) rest
KnownCourse c n x (Keeps change rest) = KnownChange c x change × KnownCourse c n (changed c n x change) rest
KnownCourse c n x (Falls why) = FallsSo why

abbrev pub IfUp : (UpNode → Type 0) → Node → Type 0
IfUp P Down = Unit {0}
IfUp P (Up x) = P x

abbrev pub KnownDoing : Cluster → Node → Doing → Type 0
KnownDoing c node Comes_up = Unit {0}
KnownDoing c node (Goes_down why) = Unit {0}
KnownDoing c node (Does a) = IfUp (λ x. KnownAct c x a) node
KnownDoing c node (Saves change) = IfUp (λ x. KnownChange c x change) node
KnownDoing c node (Loses change why) = IfUp (λ x. KnownChange c x change) node
KnownDoing c node (Forgets change why) = IfUp (λ x. KnownChange c x change) node

abbrev pub KnownAll : Cluster → ℕ → Site → List Doing → Type 0
KnownAll c n x [] = Unit {0}
KnownAll c n x (d ∷ ds) = KnownDoing c x.node d × KnownAll c n (effect c n x d) ds

-- ---- what is delivered

-- an Install brings members of the cluster, and what was read on its devices
abbrev pub BroughtIn : Cluster → Body → Type 0
BroughtIn c (body.Install i) = InNodes c i.members × (list_all (is_known_reading c) i.readings ≡ true)
BroughtIn c b = Unit {0}

abbrev pub HandIn : Cluster → Delivered → Type 0
HandIn c None = Unit {0}
HandIn c (Some d) = BroughtIn c d.1.body

-- ---- records

-- its members are nodes of the cluster, its valid devices are devices of it, and what is installed has the node itself as a member
pub record RecordIn (c : Cluster) (n : ℕ) (r : NodeRecord) : Type 0 where
  pub members : InNodes c r.members
  pub valid : (d : ℕ) → has r.valid d ≡ true → IsListed c d
  pub own : 0 < r.installed → has r.members n ≡ true

-- the members of its attempt, and its view
pub record UpIn (c : Cluster) (x : UpNode) : Type 0 where
  pub attempt : IfSome x.attempt (λ (a : AttemptState). InNodes c a.plan.members)
  pub view : IfSome x.beats.view (InNodes c)

pub record SiteIn (c : Cluster) (n : ℕ) (x : Site) : Type 0 where
  pub disk : RecordIn c n x.disk
  pub node : IfUp (UpIn c) x.node
