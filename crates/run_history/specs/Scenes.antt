-- The simulated world as its run is told: all nodes with their disks, the devices, the links, and what was said and told so far.
use Rattle.std.specs.Prelude.{ℕ, ◌+◌, ◌-◌, ◌*◌, ◌++◌, List, [], ◌∷◌, Option, None, Some, Bool, length, map, replicate, slice_set, slice_index_or, if◌then◌else◌}
use Rattle.cl_base.specs.declared.header.Header.{Header}
use Rattle.cl_base.specs.declared.packet.DropCause.{DropCause}
use Rattle.interconnect.specs.Links.{Links, Outcome as Sending, sending}
use Rattle.pgr_device.specs.Device.{Device}
use Rattle.status_report.specs.declared.entry.Entry.{Entry}
use Rattle.status_report.specs.declared.entry.Entry.TheVariants as entry
use Rattle.status_report.specs.declared.packet_entry.PacketEntry.TheVariants as packet
use Rattle.status_report.specs.Lines.{printed}
use Rattle.wire.specs.declared.message.Message.{Message}
use Rattle.wire.specs.Spelling.{spelling}
use Rattle.history.specs.Moment.{Moment, Said, Part, Told}
use Rattle.node_model.specs.declared.output.Output.{Output}
use Rattle.node_model.specs.declared.output.Output.TheVariants.{Tells, Sends}
use Rattle.world_model.specs.First.{first_cluster, first_device, first_links}
use Rattle.world_model.specs.Sends.{is_sent, name_of}
use Rattle.refinement.specs.Runs.{Nodes, first_nodes}

pub record Scene : Type 0 where
  pub nodes : Nodes  -- all nodes with their disks, and all that was ever sent
  pub devices : List Device  -- device d at place d - 1
  pub faults : List (Option Bool)  -- armed for the next command of a node to a device: whether it is done
  pub links : Links
  pub moments : List Moment  -- newest first

-- all nodes are down, no fault is armed, nothing was sent or told
unfoldable pub first_scene : Header → ℕ → Scene
first_scene h cells = record {
  nodes = first_nodes (first_cluster h);
  devices = map (first_device h) h.devices;
  faults = replicate (h.nodes * length h.devices) None;
  links = first_links cells;
  moments = [];
}

abbrev pub adding : Moment → Scene → Scene
adding m s = record s { moments = m ∷ s.moments }

-- an entry is told
abbrev pub telling : Entry → Scene → Scene
telling e s = adding (Told e) s

-- ---- what a node gives

abbrev pub dropped_so : Option (ℕ × DropCause) → Scene → Scene
dropped_so None s = s
dropped_so (Some drop) s = telling (entry.Packet (packet.Dropped drop.0 drop.1)) s

abbrev pub with_links : Scene → Links → Scene
with_links s links = record s { links = links }

abbrev pub sent_as : ℕ → ℕ → Message → Sending → Scene → Scene
sent_as from to m o s =
    dropped_so o.sent.dropped (telling (entry.Packet (packet.Sent s.links.next from to (name_of m.body) (spelling m))) (with_links s o.after))

abbrev pub posting : ℕ → ℕ → Message → Scene → Scene
posting from to m s = if is_sent s.links m then sent_as from to m (sending s.links from to (spelling m)) s else s

abbrev pub passing_one : ℕ → Output → Scene → Scene
passing_one n (Tells e) s = telling e s
passing_one n (Sends to b) s = posting n to (record { sender = n; body = b }) s

abbrev pub passing : ℕ → List Output → Scene → Scene
passing n [] s = s
passing n (o ∷ outputs) s = passing n outputs (passing_one n o s)

-- ---- faults

abbrev pub fault_place : Scene → ℕ → ℕ → ℕ
fault_place s n d = (n - 1) * length s.devices + (d - 1)

abbrev pub fault_in : Scene → ℕ → ℕ → Option Bool
fault_in s n d = slice_index_or s.faults (fault_place s n d) None

abbrev pub with_fault : Scene → ℕ → ℕ → Option Bool → Scene
with_fault s n d fault = record s { faults = slice_set s.faults (fault_place s n d) fault }

-- ---- what stands written

-- the entries as they are printed, oldest first
abbrev pub text_of : List Moment → List ℕ
text_of [] = []
text_of (Told e ∷ before) = text_of before ++ printed e
text_of (Said line ∷ before) = text_of before
text_of (Part event ∷ before) = text_of before
