-- Links: packets are numbered from 1 in the order in which they are sent, and each one that is delivered, lost, repeated or dropped is in
-- flight. A link that comes to hold more than 64 drops its oldest, and a packet for which the pool has too few cells takes its number
-- and is dropped; each such drop stands right after the sending that called for it, and there is no other.
use Rattle.std.specs.Prelude.{◌≡◌, ℕ, List, [], ◌∷◌, Option, Some, None, option_map}
use Rattle.interconnect.specs.Links as net
use Rattle.interconnect.specs.Links.{Packet}
use Rattle.cl_base.specs.declared.packet.DropCause.{DropCause}
use Rattle.cl_base.specs.declared.packet.DropCause.TheVariants as cause
use Rattle.cl_base.specs.declared.packet.DropCause.TheVariants.{Link, Pool, Down}
use Rattle.history.specs.Moment.{Moment}
use Rattle.history.specs.Trace.{sent, delivered, lost, repeated, dropped}
use Rattle.history.specs.Order.{Always}

-- the packets in flight, the number of the next one and the cells, after these moments
abbrev pub links_after : ℕ → List Moment → net.Links
links_after cells [] = record { packets = []; next = 1; cells = cells }
links_after cells (sent p a b message bytes ∷ before) = (net.sending (links_after cells before) a b bytes).after
links_after cells (repeated p copy ∷ before) = net.repeating (links_after cells before) p
links_after cells (delivered p a b ∷ before) = net.removing (links_after cells before) p
links_after cells (lost p ∷ before) = net.removing (links_after cells before) p
links_after cells (dropped p Down ∷ before) = net.removing (links_after cells before) p
links_after cells (_ ∷ before) = links_after cells before

-- the packet of a number, where it is in flight
abbrev pub in_flight : ℕ → ℕ → List Moment → Option Packet
in_flight cells p before = net.packet_of (links_after cells before).packets p

-- the oldest packet in flight from a to b
abbrev pub oldest : ℕ → ℕ → ℕ → List Moment → Option ℕ
oldest cells a b before = net.oldest_on (links_after cells before).packets a b

abbrev pub ends_of : Packet → ℕ × ℕ
ends_of p = (p.from, p.to)

-- the packet that a copy drops, and why
abbrev pub copy_drops : net.Links → Option Packet → Option (ℕ × DropCause)
copy_drops links None = None
copy_drops links (Some p) = (net.sending links p.from p.to p.bytes).sent.dropped

-- the packet that is to be dropped next, and why
abbrev pub drop_due : ℕ → List Moment → Option (ℕ × DropCause)
drop_due cells [] = None
drop_due cells (sent p a b message bytes ∷ before) = (net.sending (links_after cells before) a b bytes).sent.dropped
drop_due cells (repeated p copy ∷ before) = copy_drops (links_after cells before) (in_flight cells p before)
drop_due cells (_ ∷ before) = None

-- the packet that a moment drops for want of room, and why
abbrev pub drop_in : Moment → Option (ℕ × DropCause)
drop_in (dropped p Link) = Some (p, cause.Link)
drop_in (dropped p Pool) = Some (p, cause.Pool)
drop_in _ = None

-- a packet line is about the next number, or about a packet in flight
abbrev pub IsPacketLine : ℕ → List Moment → Moment → Type 0
IsPacketLine cells before (sent p a b message bytes) = p ≡ (links_after cells before).next
IsPacketLine cells before (repeated p copy) =
    (option_map (λ x. x.number) (in_flight cells p before) ≡ Some p) × (copy ≡ (links_after cells before).next)
IsPacketLine cells before (delivered p a b) = option_map ends_of (in_flight cells p before) ≡ Some (a, b)
IsPacketLine cells before (lost p) = option_map (λ x. x.number) (in_flight cells p before) ≡ Some p
IsPacketLine cells before (dropped p Down) = option_map (λ x. x.number) (in_flight cells p before) ≡ Some p
IsPacketLine cells before _ = Unit {0}

abbrev pub FollowsLinks : ℕ → List Moment → Moment → Type 0
FollowsLinks cells before x = IsPacketLine cells before x × (drop_in x ≡ drop_due cells before)

-- the links, over a pool of so many cells
abbrev pub Links : ℕ → List Moment → Type 0
Links cells moments = Always (FollowsLinks cells) moments
