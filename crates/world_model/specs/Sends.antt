-- What a node gives is told and sent.
use Rattle.std.specs.Prelude.{ℕ, ◌-◌, ◌^◌, ◌&&◌, nat_le, nat_lt, Bool, List, [], ◌∷◌, Option, None, Some, length, slice_get, slice_set, if◌then◌else◌}
use Rattle.cl_base.specs.declared.method.Outcome as method
use Rattle.cl_base.specs.declared.packet.DropCause.{DropCause}
use Rattle.cl_base.specs.declared.packet.MessageName.{MessageName}
use Rattle.interconnect.specs.Links.{Links, Outcome as Sending, sending}
use Rattle.rgm_member.specs.declared.due.Due.{Due}
use Rattle.record_disk.specs.Disks as disks
use Rattle.record_disk.specs.Disks.{DiskState}
use Rattle.status_report.specs.declared.entry.Entry.TheVariants as entry
use Rattle.status_report.specs.declared.packet_entry.PacketEntry.TheVariants as packet
use Rattle.wire.specs.declared.message.Body.{Body}
use Rattle.wire.specs.declared.message.Body.TheVariants as body
use Rattle.wire.specs.declared.message.Message.{Message}
use Rattle.wire.specs.Kinds.{kind_of}
use Rattle.wire.specs.Spelling.{spelling}
use Rattle.node_model.specs.declared.cluster.Cluster.{Cluster}
use Rattle.node_model.specs.declared.input.Input.{Input}
use Rattle.node_model.specs.declared.node.Node.{Node}
use Rattle.node_model.specs.declared.output.Output.{Output}
use Rattle.node_model.specs.declared.output.Output.TheVariants.{Tells, Sends}
use Rattle.node_model.specs.Calls.{call_due}
use Rattle.node_model.specs.Steps.{DiskRules, Outcome, stepped}
use Rattle.world_model.specs.Calls.{Ended, ended}
use Rattle.world_model.specs.Worlds.{Play, WorldState, node_at, telling, with_world}

-- the number that follows a message's kind in its name
abbrev pub number_in : Body → Option ℕ
number_in (body.SeizeQuorum e members d) = Some d
number_in (body.SeizeData e members d) = Some d
number_in (body.Seized e d outcome) = Some d
number_in (body.Prepare e place text) = Some place
number_in (body.Prepared e place) = Some place
number_in (body.Commit e place) = Some place
number_in (body.Order o) = Some o.number
number_in (body.Done e number outcome) = Some number
number_in (body.Request e number text) = Some number
number_in (body.Answer e number text) = Some number
number_in _ = None

abbrev pub name_of : Body → MessageName
name_of b = record { kind = kind_of b; number = number_in b }

-- a message is sent: it has a packet's size and there is a number for it; no node gives another
abbrev pub is_sent : Links → Message → Bool
is_sent links m = nat_le (length (spelling m)) 131072 && nat_lt links.next (2 ^ 63)

abbrev pub dropped_so : Option (ℕ × DropCause) → Play → Play
dropped_so None p = p
dropped_so (Some drop) p = telling (entry.Packet (packet.Dropped drop.0 drop.1)) p

abbrev pub with_links : Play → Links → Play
with_links p links = with_world p (record p.world { links = links })

abbrev pub sent_as : ℕ → ℕ → Message → Sending → Play → Play
sent_as from to m o p =
    dropped_so o.sent.dropped (telling (entry.Packet (packet.Sent p.world.links.next from to (name_of m.body) (spelling m))) (with_links p o.after))

abbrev pub posting : ℕ → ℕ → Message → Play → Play
posting from to m p = if is_sent p.world.links m then sent_as from to m (sending p.world.links from to (spelling m)) p else p

abbrev pub passing_one : ℕ → Output → Play → Play
passing_one me (Tells e) p = telling e p
passing_one me (Sends to b) p = posting me to (record { sender = me; body = b }) p

abbrev pub passing : ℕ → List Output → Play → Play
passing me [] p = p
passing me (o ∷ outputs) p = passing me outputs (passing_one me o p)

-- What happens to a node; the node and its disk are those at its place.

abbrev pub rules : DiskRules DiskState
rules = record { kept = λ d. d.kept; saving = disks.saving; mounting = disks.mounting }

-- the nodes and disks after it, and what the node gives
pub record Stepping : Type 0 where
  pub nodes : List Node
  pub disks : List DiskState
  pub given : List Output

abbrev pub stepped_to : ℕ → List Node → List DiskState → Outcome DiskState → Stepping
stepped_to me nodes disks o = record { nodes = slice_set nodes (me - 1) o.after; disks = slice_set disks (me - 1) o.disk; given = o.given }

abbrev pub stepping_at : Cluster → ℕ → ℕ → method.Outcome → Input → List Node → List DiskState → Option Node → Option DiskState → Stepping
stepping_at c me now outcome i nodes disks (Some node) (Some disk) = stepped_to me nodes disks (stepped rules c me now outcome node disk i)
stepping_at c me now outcome i nodes disks None disk = record { nodes = nodes; disks = disks; given = [] }
stepping_at c me now outcome i nodes disks (Some node) None = record { nodes = nodes; disks = disks; given = [] }

abbrev pub stepping : Cluster → ℕ → ℕ → method.Outcome → Input → List Node → List DiskState → Stepping
stepping c me now outcome i nodes disks = stepping_at c me now outcome i nodes disks (slice_get nodes (me - 1)) (slice_get disks (me - 1))

abbrev pub come_to : ℕ → Stepping → Play → Play
come_to me s p = passing me s.given (with_world p (record p.world { nodes = s.nodes; disks = s.disks }))

-- The node steps; the method that it calls has ended so.
abbrev pub giving_so : ℕ → Input → method.Outcome → Play → Play
giving_so me i outcome p = come_to me (stepping p.world.cluster me p.world.clock outcome i p.world.nodes p.world.disks) p

abbrev pub due_at : WorldState → ℕ → Input → Option Node → Option Due
due_at w me i None = None
due_at w me i (Some node) = call_due w.cluster me w.clock node i

-- the call that it is to make
abbrev pub due_in : WorldState → ℕ → Input → Option Due
due_in w me i = due_at w me i (node_at w me)

abbrev pub giving_with : ℕ → Input → Ended → Play → Play
giving_with me i e p = giving_so me i e.outcome (with_world p e.world)

abbrev pub giving : ℕ → Input → Play → Play
giving me i p = giving_with me i (ended p.world (due_in p.world me i)) p
