-- What carries the proofs, of the course of a tick: what comes before its first save, and which save that is.
use Rattle.std.specs.Prelude.{ℕ, ◌⊎◌, List, [], ◌++◌, Option, None, Some}
use Rattle.node_model.specs.declared.cluster.Cluster.{Cluster}
use Rattle.node_model.specs.declared.node.UpNode.{UpNode}
use Rattle.node_model.specs.declared.output.Output.{Output}
use Rattle.refinement.specs.Courses.{Course}
use Rattle.refinement.specs.Courses.Course.{Acts, Falls, Keeps, Stops}
use Rattle.refinement.specs.Doings.{Act, acted, said}
use Rattle.refinement.specs.Doings.Act.{Gives, Minds, Spreads, Waits, Works}
use Rattle.refinement.specs.Doings.Change.{Leads, Proposes}
use Rattle.run_history.specs.Guards.{IsPlainBody}
use Rattle.run_downs.proofs.Proposed.{IsNoStopCause}
use Rattle.run_downs.proofs.Proposing.{IsNoMake}

-- it leaves the record, the membership and the attempt
abbrev pub StillAct : Act → Type 0
StillAct (Gives os) = Unit {0}
StillAct (Spreads receivers b) = IsPlainBody b
StillAct (Minds q p) = Unit {0}
StillAct (Works w) = Unit {0}
StillAct Waits = Unit {0}
StillAct _ = ⊥

-- nothing is saved
abbrev pub SavesNone : Course → Type 0
SavesNone Stops = Unit {0}
SavesNone (Acts a rest) = IsNoMake a × SavesNone rest
SavesNone (Keeps change rest) = ⊥
SavesNone (Falls why) = IsNoStopCause why

-- the first save is that of a proposal, or of the promise of an attempt of its own, and nothing changes before; or nothing is saved
abbrev pub SavesFirst : Course → Type 0
SavesFirst Stops = Unit {0}
SavesFirst (Acts a rest) = (StillAct a × SavesFirst rest) ⊎ SavesNone (Acts a rest)
SavesFirst (Keeps (Proposes s p text) rest) = Unit {0}
SavesFirst (Keeps (Leads p members) rest) = Unit {0}
SavesFirst (Keeps _ rest) = ⊥
SavesFirst (Falls why) = IsNoStopCause why

-- the same, and no attempt begins
abbrev pub ProposesFirst : Course → Type 0
ProposesFirst Stops = Unit {0}
ProposesFirst (Acts a rest) = StillAct a × ProposesFirst rest
ProposesFirst (Keeps (Proposes s p text) rest) = Unit {0}
ProposesFirst (Keeps _ rest) = ⊥
ProposesFirst (Falls why) = IsNoStopCause why

-- an attempt that is to begin: the node as it is then, and the epoch and the members
pub record Lead : Type 0 where
  pub node : UpNode
  pub epoch : ℕ
  pub members : ℕ

-- .. where its promise is the first save
abbrev pub lead_at : Cluster → ℕ → UpNode → Course → Option Lead
lead_at c me x Stops = None
lead_at c me x (Acts a rest) = lead_at c me (acted c me x a) rest
lead_at c me x (Keeps (Leads p members) rest) = Some (record { node = x; epoch = p; members = members })
lead_at c me x (Keeps _ rest) = None
lead_at c me x (Falls why) = None

-- what is given before the first save
abbrev pub first_said : Cluster → ℕ → UpNode → Course → List Output
first_said c me x Stops = []
first_said c me x (Acts a rest) = said c me x a ++ first_said c me (acted c me x a) rest
first_said c me x (Keeps change rest) = []
first_said c me x (Falls why) = []
