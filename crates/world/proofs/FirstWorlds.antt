-- The world before the first line, from its parts.
use Rattle.std.proofs.Common.{◌≡◌, ℕ, ◌*◌, Bool, List, [], Option, None, length, map, replicate, refl, ap, ◌∙◌}
use Rattle.agents.specs.Calls.{AgentState}
use Rattle.cl_base.specs.declared.header.Header.{Header}
use Rattle.cl_base.specs.declared.header.HeaderDevice.{HeaderDevice}
use Rattle.interconnect.specs.Links.{Links}
use Rattle.node_model.specs.declared.cluster.Cluster.{Cluster}
use Rattle.node_model.specs.declared.node.Node.{Node}
use Rattle.node_model.specs.declared.node.Node.TheVariants.{Down}
use Rattle.pgr_device.specs.Device.{Device}
use Rattle.record_disk.specs.Disks.{DiskState}
use Rattle.world_model.specs.declared.scripted.Scripted.{Scripted}
use Rattle.world_model.specs.First.{first_cluster, first_device, first_disks, first_links, first_world}
use Rattle.world_model.specs.Worlds.{WorldState}

pub made : (h : Header) (cells : ℕ) (cluster : Cluster) (nodes : List Node) (disks : List DiskState) (devices : List Device) (faults : List (Option Bool)) (links : Links) (listed : List HeaderDevice) (script : List Scripted) (kept agents : List AgentState)
    → cluster ≡ first_cluster h → nodes ≡ replicate h.nodes Down → disks ≡ first_disks cluster h.nodes
    → devices ≡ map (first_device h) h.devices → listed ≡ h.devices → faults ≡ replicate (h.nodes * length listed) None → links ≡ first_links cells → script ≡ [] → kept ≡ agents
    → (let w : WorldState = record { cluster = cluster; nodes = nodes; disks = disks; devices = devices; faults = faults; links = links; clock = 0; script = script; agents = kept } in w ≡ first_world h cells agents)
unfolding first_world
made h cells cluster nodes disks devices faults links listed script kept agents a b d e i f g none same =
    let d' : disks ≡ first_disks (first_cluster h) h.nodes = d ∙ ap (λ (c : Cluster). first_disks c h.nodes) a in
    rw (a, b, d', e, f, i, g, none, same) refl
