-- A node with its disk, in the machine of the whole cluster with its devices, and what a small step of it is there.
use Rattle.std.specs.Prelude.{ℕ, ◌≡◌, ◌<◌, ◌^◌, List, [], ◌∷◌, Option, None, Some}
use Rattle.std.specs.List.{AllByRecursion}
use Rattle.attempt_laws.specs.Asking.{AreApart, numbers_of}
use Rattle.cluster_machine.specs.Cluster.{Cluster as Whole}
use Rattle.cluster_ties.specs.Laws.{IsAskedTo}
use Rattle.cluster_ties.specs.Moves.{Moves}
use Rattle.cluster_ties.specs.Ties.{Devices, DevicesTied, NodeAt}
use Rattle.cluster_ties.specs.Told.{IsRequest, ToldOf}
use Rattle.cmm_attempt.specs.Attempts.{AttemptState, install_in}
use Rattle.cmm_attempt.specs.declared.phase.Phase.TheVariants.{Installing}
use Rattle.cmm_attempt.specs.declared.step.Step.{Step}
use Rattle.cmm_attempt.specs.declared.step.Step.TheVariants as step
use Rattle.membership_machine.specs.Events as membership
use Rattle.node_model.specs.Seats.{state_of}
use Rattle.node_model.specs.declared.cluster.Cluster.{Cluster}
use Rattle.node_model.specs.declared.node.Node.{Node}
use Rattle.node_model.specs.declared.node.Node.TheVariants.{Down, Up}
use Rattle.node_model.specs.declared.node.UpNode.{UpNode}
use Rattle.node_model.specs.declared.output.Output.{Output}
use Rattle.node_model.specs.declared.output.Output.TheVariants.{Sends, Tells}
use Rattle.refinement.specs.Doings.{Site}
use Rattle.refinement.specs.Facts.{JoinsIn}
use Rattle.refinement.specs.Ties.{AllTold, Delivered, SiteTied, setting_of}
use Rattle.refinement.specs.Widths.{ClusterFits}
use Rattle.wire.specs.Spelling.{IsDevices}
use Rattle.wire.specs.declared.message.Body.TheVariants as body
use Rattle.run_history.specs.Guards.{Hand}

-- The cluster has at most 16 devices, of the numbers 1 to 16 and apart, and an id of 32 bits.
pub record IsCluster (c : Cluster) : Type 0 where
  pub fits : ClusterFits c
  pub apart : AreApart (numbers_of c.attached)
  pub small : c.id < 2 ^ 32

-- while its attempt installs, what its Install tells of devices is so
abbrev pub InstallsAt : Whole → ℕ → Option AttemptState → Type 0
InstallsAt W n None = Unit {0}
InstallsAt W n (Some a) = a.phase ≡ Installing → ToldOf W n n (body.Install (install_in a))

pub record Own (W : Whole) (n : ℕ) (x : UpNode) : Type 0 where
  pub me : (state_of x.seat).me ≡ n
  pub installs : InstallsAt W n x.attempt

abbrev pub OwnIn : Whole → ℕ → Node → Type 0
OwnIn W n Down = Unit {0}
OwnIn W n (Up x) = Own W n x

-- Node n with its disk is the machine's: in the machine of memberships, and at each device.
pub record SiteAt (c : Cluster) (W : Whole) (n : ℕ) (x : Site) : Type 0 where
  pub tied : SiteTied c W.memberships n x
  pub joins : JoinsIn x.node
  pub at : NodeAt c W n x.disk x.node
  pub own : OwnIn W n x.node
  pub valid : IsDevices x.disk.valid

-- What is told.

-- the messages of node n among these tell of devices what is so
abbrev pub AllToldOf : Whole → ℕ → List Output → Type 0
AllToldOf W n [] = Unit {0}
AllToldOf W n (Tells e ∷ os) = AllToldOf W n os
AllToldOf W n (Sends to b ∷ os) = ToldOf W n to b × AllToldOf W n os

-- so does the packet that is delivered to node n, if one is
abbrev pub KnownOf : Whole → ℕ → Delivered → Type 0
KnownOf W n None = Unit {0}
KnownOf W n (Some d) = ToldOf W d.0 n d.1.body

-- the machine has as asked whom a step of the attempt asks
abbrev pub StepSo : Whole → ℕ → AttemptState → Step → Type 0
StepSo W n t (step.Send to m) = IsRequest m.body → ToldOf W n to m.body
StepSo W n t (step.SeizeHere d kind) = IsAskedTo (W.device d) t.plan.epoch t.plan.members n kind
StepSo W n t _ = Unit {0}

abbrev pub HandAt : Whole → ℕ → Hand → Type 0
HandAt W n None = Unit {0}
HandAt W n (Some u) = AllByRecursion (StepSo W n u.after) u.steps

-- The whole goes on by what node n does: in the machine of memberships these are these events, the devices are so
-- after it, the node is as y has it, and what it gives is true, of memberships and of devices.
pub record DoingGoes (c : Cluster) (W : Whole) (n : ℕ) (devices : Devices) (y : Site) (os : List Output)
    (events : List membership.Event) (h : Hand) : Type 0 where
  pub machine : Whole
  pub moves : Moves (setting_of c) W n machine
  pub run : membership.Run (setting_of c) W.memberships events machine.memberships
  pub devices_so : DevicesTied c devices machine
  pub site_so : SiteAt c machine n y
  pub said : AllTold machine.memberships n os
  pub told : AllToldOf machine n os
  pub hand : HandAt machine n h
