-- The laws, of each step of a node on the simulated disk.
use Rattle.std.specs.Prelude.{ℕ}
use Rattle.cl_base.specs.declared.method.Outcome.{Outcome}
use Rattle.record_disk.specs.Disks.{DiskState}
use Rattle.node_model.specs.declared.cluster.Cluster.{Cluster}
use Rattle.node_model.specs.declared.input.Input.{Input}
use Rattle.node_model.specs.declared.node.Node.{Node}
use Rattle.node_model.specs.Steps.{stepped}
use Rattle.refinement.specs.Steps.{disk_rules}
use Rattle.run_history.specs.CommandLines.{NodeTells}
use Rattle.run_history.specs.Names.{AreListed, IsListed, NodeNames}

-- whatever comes to whatever node
abbrev pub CommandsAreTold : Type 0
CommandsAreTold = (c : Cluster) (n now : ℕ) (ends : Outcome) (node : Node) (disk : DiskState) (i : Input) → NodeTells n node i (stepped disk_rules c n now ends node disk i).given

-- A node that names devices of the cluster alone goes on to do so, whatever comes to it.
abbrev pub DevicesAreKnown : Type 0
DevicesAreKnown = (c : Cluster) (n now : ℕ) (ends : Outcome) (node : Node) (disk : DiskState) (i : Input) → AreListed c
    → NodeNames (IsListed c) node → NodeNames (IsListed c) (stepped disk_rules c n now ends node disk i).after
