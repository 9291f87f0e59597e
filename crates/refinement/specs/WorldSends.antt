-- In every run of the world a step of a node sends few messages.
use Rattle.std.specs.Prelude.{ℕ, ◌-◌, ◌≡◌, ◌≤◌, ◌<◌, ◌^◌, List, Some, length, slice_get}
use Rattle.std.specs.List.{AllByRecursion}
use Rattle.cl_base.specs.Limits.{most_devices, most_nodes}
use Rattle.agents.specs.Calls.{AgentState}
use Rattle.cl_base.specs.declared.header.Header.{Header}
use Rattle.cl_base.specs.declared.method.Outcome.{Outcome}
use Rattle.record_disk.specs.Disks.{DiskState}
use Rattle.schedule_text.specs.declared.event.Event.{Event}
use Rattle.wire.specs.Spelling.{IsNode}
use Rattle.node_model.specs.declared.cluster.Cluster.{Cluster}
use Rattle.node_model.specs.declared.input.Input.{Input}
use Rattle.node_model.specs.declared.node.Node.{Node}
use Rattle.node_model.specs.Steps.{stepped}
use Rattle.refinement.specs.node_bounds.Bounded.{IsFromNode}
use Rattle.refinement.specs.node_bounds.Sends.{most_sends, sends_of}
use Rattle.world_model.specs.First.{first_cluster, first_world}
use Rattle.world_model.specs.Worlds.{WorldState, play}
use Rattle.refinement.specs.Steps.{disk_rules}
use Rattle.refinement.specs.Worlds.{IsNamed, lines_on}

-- this node of the world, whatever its disk does, and whatever comes to it of a node
abbrev pub SendsFewIn : Cluster → WorldState → Type 0
SendsFewIn c w = (n now : ℕ) (ends : Outcome) (node : Node) (disk : DiskState) (i : Input) → IsNode n → slice_get w.nodes (n - 1) ≡ Some node → IsFromNode i
    → sends_of (stepped disk_rules c n now ends node disk i).given ≤ most_sends

-- of each world that a header and lines lead to
abbrev pub WorldsSendFew : Type 0
WorldsSendFew = (h : Header) (cells : ℕ) (agents : List AgentState) (text : List ℕ) (events : List Event) → h.nodes ≤ most_nodes → length h.devices ≤ most_devices → h.cluster < 2 ^ 32 → AllByRecursion IsNamed events
    → SendsFewIn (first_cluster h) (lines_on events (play (first_world h cells agents) text)).world
