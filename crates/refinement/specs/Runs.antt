-- Runs of all nodes of a cluster: any node takes any input at any time, and a message that was sent comes late, twice or not at all, and to anyone.
use Rattle.std.specs.Prelude.{ℕ, ◌≡◌, ◌≤◌, ◌<◌, ◌^◌, ◌⊎◌, ◌++◌, All, List, [], ◌∷◌, length}
use Rattle.std.specs.List.{AllByRecursion}
use Rattle.cl_base.specs.declared.method.Outcome as method
use Rattle.cmm_attempt.specs.Calls.{IsDevice}
use Rattle.local_disk.specs.declared.memory.Choice.{Choice}
use Rattle.machine_base.specs.Put.{put}
use Rattle.membership_machine.specs.Events.{Event, Run}
use Rattle.membership_machine.specs.State.{Memberships, first_memberships}
use Rattle.record_disk.specs.Disks.{DiskState, armed, empty_disk}
use Rattle.wire.specs.declared.message.Body.{Body}
use Rattle.wire.specs.declared.message.Body.TheVariants as body
use Rattle.wire.specs.declared.message.Install.{Install}
use Rattle.ccr_commit.specs.Entries.{listed}
use Rattle.attempt_laws.specs.Machine.{is_member}
use Rattle.node_model.specs.Clusters.{first_valid_of}
use Rattle.node_model.specs.declared.cluster.Cluster.{Cluster}
use Rattle.node_model.specs.declared.input.Input.{Input}
use Rattle.node_model.specs.declared.input.Input.TheVariants.{Answered, Packet}
use Rattle.node_model.specs.declared.node.Node.{Node}
use Rattle.node_model.specs.declared.node.Node.TheVariants.{Down}
use Rattle.node_model.specs.declared.output.Output.{Output}
use Rattle.node_model.specs.declared.output.Output.TheVariants.{Tells, Sends}
use Rattle.node_model.specs.Steps.{Outcome, stepped}
use Rattle.refinement.specs.node_widths.Widths.{AnswerFits}
use Rattle.refinement.specs.Steps.{disk_rules}
use Rattle.refinement.specs.Ties.{MessageTold, setting_of}
use Rattle.refinement.specs.Whole.{Stands}

-- a message with its sender
pub record Letter : Type 0 where
  pub from : ℕ
  pub body : Body

-- all nodes with their disks, and all that was ever sent
pub record Nodes : Type 0 where
  pub node : ℕ → Node
  pub disk : ℕ → DiskState
  pub sent : List Letter

-- all are down, with empty disks
abbrev pub first_nodes : Cluster → Nodes
first_nodes c = record { node = λ n. Down; disk = λ n. empty_disk (first_valid_of c n); sent = [] }

pub data Move : Type 0 where
  Takes : (n now : ℕ) (ends : method.Outcome) (i : Input) → Move  -- something happens to node n, at this second of the clock; a method that it calls ends so
  Arms : (n calls : ℕ) (choice : Choice) → Move  -- a stop is armed in the disk of node n

abbrev pub letters_of : ℕ → List Output → List Letter
letters_of n [] = []
letters_of n (Tells e ∷ os) = letters_of n os
letters_of n (Sends to b ∷ os) = record { from = n; body = b } ∷ letters_of n os

abbrev pub IsAmong : ℕ → Body → List Letter → Type 0
IsAmong from b [] = ⊥
IsAmong from b (l ∷ letters) = ((l.from ≡ from) × (l.body ≡ b)) ⊎ IsAmong from b letters

-- a message that comes was sent, by the node that it is said to be from
abbrev pub WasSent : Nodes → Input → Type 0
WasSent w (Packet from m) = IsAmong from m.body w.sent
WasSent w _ = Unit {0}

-- a device's answer has its widths
abbrev pub AnswersFit : Input → Type 0
AnswersFit (Answered a) = AnswerFits a
AnswersFit _ = Unit {0}

abbrev pub MayMove : Nodes → Move → Type 0
MayMove w (Takes n now ends i) = (1 ≤ n) × (n ≤ 32) × WasSent w i × AnswersFit i
MayMove w (Arms n calls choice) = Unit {0}

-- its second has 64 bits
abbrev pub InTime : Move → Type 0
InTime (Takes n now ends i) = now < 2 ^ 64
InTime (Arms n calls choice) = Unit {0}

abbrev pub stepped_at : Nodes → ℕ → Outcome DiskState → Nodes
stepped_at w n o = record { node = put w.node n o.after; disk = put w.disk n o.disk; sent = letters_of n o.given ++ w.sent }

abbrev pub moved : Cluster → Nodes → Move → Nodes
moved c w (Takes n now ends i) = stepped_at w n (stepped disk_rules c n now ends (w.node n) (w.disk n) i)
moved c w (Arms n calls choice) = record w { disk = put w.disk n (armed (w.disk n) calls choice) }

-- v is reached from w by these moves
abbrev pub Moves : Cluster → Nodes → List Move → Nodes → Type 0
Moves c w [] v = v ≡ w
Moves c w (m ∷ moves) v = MayMove w m × Moves c (moved c w m) moves v

-- The machine of memberships comes by these events to a state in which each node with its disk is tied, and all that was ever sent is true.
pub record IsRun (c : Cluster) (w : Nodes) : Type 0 where
  pub events : List Event
  pub machine : Memberships
  pub run : Run (setting_of c) first_memberships events machine
  pub stands : (n : ℕ) → Stands c machine n (w.node n) (w.disk n).kept
  pub sent : AllByRecursion (λ (l : Letter). MessageTold machine l.from l.body) w.sent

-- Every run is one of the machine of memberships.
abbrev pub EveryRunIsOne : Type 0
EveryRunIsOne = (c : Cluster) (moves : List Move) (w : Nodes) → All IsDevice c.attached → Moves c (first_nodes c) moves w → IsRun c w

-- What follows of messages that were ever sent.

-- two attempts of one number are of the same members, and so are two Collects
abbrev pub CollectsAgree : Type 0
CollectsAgree = (c : Cluster) (w : Nodes) (from other p first second : ℕ) → IsRun c w → IsAmong from (body.Collect p first) w.sent → IsAmong other (body.Collect p second) w.sent
    → (n : ℕ) → is_member first n ≡ is_member second n

-- two Installs of one epoch are of the same members, with the same updates, as many of them committed
pub record SameInstall (i j : Install) : Type 0 where
  pub members : (n : ℕ) → is_member i.members n ≡ is_member j.members n
  pub updates : i.committed ++ listed i.pending ≡ j.committed ++ listed j.pending
  pub committed : length i.committed ≡ length j.committed

abbrev pub InstallsAgree : Type 0
InstallsAgree = (c : Cluster) (w : Nodes) (from other : ℕ) (i j : Install) → IsRun c w → IsAmong from (body.Install i) w.sent → IsAmong other (body.Install j) w.sent → i.epoch ≡ j.epoch
    → SameInstall i j

-- two Prepares of one place in one membership bring the same update
abbrev pub PreparesAgree : Type 0
PreparesAgree = (c : Cluster) (w : Nodes) (from other p place : ℕ) (first second : List ℕ) → IsRun c w → IsAmong from (body.Prepare p place first) w.sent
    → IsAmong other (body.Prepare p place second) w.sent → first ≡ second
