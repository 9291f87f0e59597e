-- Packets are delivered, lost and repeated.
use Rattle.std.specs.Prelude.{ℕ, ◌^◌, nat_lt, Option, None, Some, if◌then◌else◌}
use Rattle.cl_base.specs.declared.packet.DropCause.TheVariants as drop
use Rattle.interconnect.specs.Links as links
use Rattle.interconnect.specs.Links.{Packet, packet_of, oldest_on, removing, repeating, sending}
use Rattle.status_report.specs.declared.entry.Entry.TheVariants as entry
use Rattle.status_report.specs.declared.packet_entry.PacketEntry.TheVariants as packet
use Rattle.status_report.specs.declared.schedule_entry.SkipCause.TheVariants.{NoPacket}
use Rattle.wire.specs.declared.message.Message.{Message}
use Rattle.wire.specs.Reads.{whole_of}
use Rattle.node_model.specs.declared.input.Input.TheVariants as input
use Rattle.world_model.specs.Worlds.{Play, is_up, skipping, telling}
use Rattle.world_model.specs.Sends.{dropped_so, giving, with_links}

-- a packet that holds no message is foreign, and no node sends such
abbrev pub taking : ℕ → ℕ → Option Message → Play → Play
taking from to None p = p
taking from to (Some m) p = giving to (input.Packet from m) p

abbrev pub arriving : ℕ → ℕ → ℕ → Option Message → Play → Play
arriving number from to m p =
    if is_up p.world to
    then taking from to m (telling (entry.Packet (packet.Delivered number from to)) p)
    else telling (entry.Packet (packet.Dropped number drop.Down)) p

abbrev pub delivering_as : ℕ → Option Packet → Play → Play
delivering_as number None p = skipping NoPacket p
delivering_as number (Some x) p = arriving number x.from x.to (whole_of x.bytes) (with_links p (removing p.world.links number))

abbrev pub delivering : ℕ → Play → Play
delivering number p = delivering_as number (packet_of p.world.links.packets number) p

abbrev pub losing_as : ℕ → Option Packet → Play → Play
losing_as number None p = skipping NoPacket p
losing_as number (Some x) p = telling (entry.Packet (packet.Lost number)) (with_links p (removing p.world.links number))

abbrev pub losing : ℕ → Play → Play
losing number p = losing_as number (packet_of p.world.links.packets number) p

-- a copy takes the next number
abbrev pub copying : ℕ → links.Outcome → Play → Play
copying number o p = dropped_so o.sent.dropped (telling (entry.Packet (packet.Repeated number p.world.links.next)) (with_links p o.after))

abbrev pub repeating_as : ℕ → Option Packet → Play → Play
repeating_as number None p = skipping NoPacket p
repeating_as number (Some x) p = if nat_lt p.world.links.next (2 ^ 63) then copying number (sending p.world.links x.from x.to x.bytes) p else p

abbrev pub repeating_one : ℕ → Play → Play
repeating_one number p = repeating_as number (packet_of p.world.links.packets number) p

-- the oldest packet on a link, by its number
abbrev pub with_oldest : (ℕ → Play → Play) → Option ℕ → Play → Play
with_oldest act None p = skipping NoPacket p
with_oldest act (Some number) p = act number p

abbrev pub on_oldest : (ℕ → Play → Play) → ℕ → ℕ → Play → Play
on_oldest act from to p = with_oldest act (oldest_on p.world.links.packets from to) p
