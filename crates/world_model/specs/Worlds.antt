-- The simulated cluster, and the text of its trace.
use Rattle.std.specs.Prelude.{ℕ, ◌-◌, ◌++◌, Bool, true, false, List, Option, None, Some, slice_get}
use Rattle.agents.specs.Calls.{AgentState}
use Rattle.interconnect.specs.Links.{Links}
use Rattle.pgr_device.specs.Device.{Device}
use Rattle.record_disk.specs.Disks.{DiskState}
use Rattle.status_report.specs.declared.entry.Entry.{Entry}
use Rattle.status_report.specs.declared.entry.Entry.TheVariants as entry
use Rattle.status_report.specs.declared.schedule_entry.ScheduleEntry.{ScheduleEntry}
use Rattle.status_report.specs.declared.schedule_entry.ScheduleEntry.TheVariants.{Skipped}
use Rattle.status_report.specs.declared.schedule_entry.SkipCause.{SkipCause}
use Rattle.status_report.specs.Lines.{printed}
use Rattle.world_model.specs.declared.scripted.Scripted.{Scripted}
use Rattle.node_model.specs.declared.cluster.Cluster.{Cluster}
use Rattle.node_model.specs.declared.node.Node.{Node}
use Rattle.node_model.specs.declared.node.Node.TheVariants.{Down, Up}

-- node n is at place n - 1, device d at place d - 1; the faults stand node by node, those of a node by device
pub record WorldState : Type 0 where
  pub cluster : Cluster
  pub nodes : List Node
  pub disks : List DiskState
  pub devices : List Device
  pub faults : List (Option Bool)  -- armed for the next command of a node to a device: whether it is done
  pub links : Links
  pub clock : ℕ
  pub script : List Scripted  -- outcomes that are queued, oldest first
  pub agents : List AgentState

-- a world, and the text of the entries so far
pub record Play : Type 0 where
  pub world : WorldState
  pub text : List ℕ

abbrev pub play : WorldState → List ℕ → Play
play w text = record { world = w; text = text }

abbrev pub with_world : Play → WorldState → Play
with_world p w = record p { world = w }

-- an entry is told
abbrev pub telling : Entry → Play → Play
telling e p = record p { text = p.text ++ printed e }

abbrev pub noting : ScheduleEntry → Play → Play
noting e p = telling (entry.Schedule e) p

-- a line that cannot act
abbrev pub skipping : SkipCause → Play → Play
skipping cause p = noting (Skipped cause) p

abbrev pub node_at : WorldState → ℕ → Option Node
node_at w n = slice_get w.nodes (n - 1)

abbrev pub is_up_node : Option Node → Bool
is_up_node None = false
is_up_node (Some Down) = false
is_up_node (Some (Up x)) = true

-- whether the node is up; one that is not there is not
abbrev pub is_up : WorldState → ℕ → Bool
is_up w n = is_up_node (node_at w n)
