-- A scene of a run: the machine of memberships has come to a state in which it is tied, and each node has of messages what came.
use Rattle.std.specs.Prelude.{ℕ, ◌≡◌, ◌<◌, ◌^◌, Some, slice_get}
use Rattle.std.specs.List.{AllByRecursion}
use Rattle.membership_machine.specs.Invariant.{Holds}
use Rattle.membership_machine.specs.State.{Memberships}
use Rattle.node_model.specs.declared.cluster.Cluster.{Cluster}
use Rattle.pgr_device.specs.Device.{Device}
use Rattle.refinement.specs.Doings.{Site, site}
use Rattle.refinement.specs.Runs.{Letter, Nodes}
use Rattle.refinement.specs.Ties.{MessageTold, setting_of}
use Rattle.refinement.specs.Whole.{Stands}
use Rattle.refinement.specs.Widths.{ClusterFits, RunFits}
use Rattle.refinement.specs.Worlds.{DeviceFits}
use Rattle.run_history.specs.Scenes.{Scene}
use Rattle.run_history.specs.Causes.{Flying}
use Rattle.run_history.specs.Noted.{Laws, LinesStarted, LinesTried, Notes}

-- the cluster has the numbers that it may have
pub record Sized (c : Cluster) : Type 0 where
  pub fits : ClusterFits c
  pub small : c.id < 2 ^ 32

-- a node with its disk
abbrev pub site_of : Nodes → ℕ → Site
site_of v n = site (v.node n) (v.disk n).kept

pub record Stage (c : Cluster) (s : Scene) : Type 0 where
  pub machine : Memberships
  pub holds : Holds (setting_of c) machine
  pub stands : (n : ℕ) → Stands c machine n (s.nodes.node n) (s.nodes.disk n).kept
  pub sent : AllByRecursion (λ (l : Letter). MessageTold machine l.from l.body) s.nodes.sent
  pub fits : RunFits c s.nodes
  pub devices : (d : ℕ) (device : Device) → slice_get s.devices d ≡ Some device → DeviceFits device
  pub laws : Laws s.moments
  pub tried : LinesTried machine s.moments
  pub started : LinesStarted machine s.moments
  pub notes : (n : ℕ) → Notes s.moments n (site_of s.nodes n)
  pub flying : Flying s.moments s.links
