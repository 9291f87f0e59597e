-- What the links hold: the packets in flight, in the order of their numbers. Nothing here speaks
-- of the places in which they stand.
use Rattle.std.specs.Prelude.{ℕ, ◌+◌, ◌-◌, ◌≤◌, ◌==◌, ◌&&◌, not, nat_lt, nat_le, Bool, if◌then◌else◌, List, [], ◌∷◌, ◌++◌, Option, Some, None, length, filter, find, sum_by, count_by, drop}
use Rattle.std.specs.Option.{option_map}
use Rattle.cell_pool.specs.Cells.{cells_for}
use Rattle.cl_base.specs.Limits.{most_packets}
use Rattle.cl_base.specs.declared.packet.DropCause.TheVariants.{Link, Pool}
use Rattle.interconnect.specs.declared.packet.Sent.{Sent}
use Rattle.interconnect.specs.declared.packet.Delivery.{Delivery}

-- a packet in flight
pub record Packet : Type 0 where
  pub number : ℕ
  pub from : ℕ
  pub to : ℕ
  pub bytes : List ℕ

-- the packets in flight, the number of the next one, and the number of cells
pub record Links : Type 0 where
  pub packets : List Packet
  pub next : ℕ
  pub cells : ℕ

-- the cells in which a packet stands
abbrev pub cells_of : Packet → ℕ
cells_of p = cells_for (length p.bytes)

-- the cells in which no packet stands
abbrev pub free_cells_of : Links → ℕ
free_cells_of net = net.cells - sum_by cells_of net.packets

-- whether a packet is on its way from one node to another
abbrev pub is_on : ℕ → ℕ → Packet → Bool
is_on from to p = (p.from == from) && (p.to == to)

-- how many packets are in flight on a link
abbrev pub count_on : List Packet → ℕ → ℕ → ℕ
count_on packets from to = count_by (is_on from to) packets

-- the number of the oldest packet in flight on a link
abbrev pub oldest_on : List Packet → ℕ → ℕ → Option ℕ
oldest_on packets from to = option_map (λ p. p.number) (find (is_on from to) packets)

-- the numbers rise, from low on, and stay below the next
abbrev pub NumbersRise : ℕ → List Packet → ℕ → Type 0
NumbersRise low [] next = low ≤ next
NumbersRise low (p ∷ rest) next = (low ≤ p.number) × NumbersRise (p.number + 1) rest next

-- the first packet in flight of this number or a greater one, by its number
abbrev pub first_from_of : List Packet → ℕ → Option ℕ
first_from_of packets number = option_map (λ p. p.number) (find (λ p. nat_le number p.number) packets)

-- from whom to whom a packet goes
abbrev pub route_of : Packet → ℕ × ℕ
route_of p = (p.from, p.to)

-- the packet of a number
abbrev pub packet_of : List Packet → ℕ → Option Packet
packet_of packets number = find (λ p. p.number == number) packets

-- a packet is no longer in flight: it was delivered, lost or dropped
abbrev pub removing : Links → ℕ → Links
removing net number = record net { packets = filter (λ p. not (p.number == number)) net.packets }

-- a packet takes the next number, and is in flight after all others
abbrev pub appending : Links → ℕ → ℕ → List ℕ → Links
appending net from to bytes = record {
  packets = net.packets ++ (record { number = net.next; from = from; to = to; bytes = bytes }) ∷ [];
  next = net.next + 1;
  cells = net.cells;
}

-- what a call leaves, and what it tells
pub record Outcome : Type 0 where
  pub after : Links
  pub sent : Sent

-- where the pool has no room for a packet, the packet's number is used up and nothing is sent
abbrev pub refusing : Links → Outcome
refusing net = record {
  after = record net { next = net.next + 1 };
  sent = record { number = None; dropped = Some (net.next, Pool) };
}

-- the oldest packet of a link is dropped
abbrev pub dropping : Links → ℕ → Option ℕ → Outcome
dropping net number None = record { after = net; sent = record { number = Some number; dropped = None } }
dropping net number (Some oldest) =
    record { after = removing net oldest; sent = record { number = Some number; dropped = Some (oldest, Link) } }

-- a link that now has more packets than it holds drops its oldest
abbrev pub crowding : Links → ℕ → ℕ → ℕ → Outcome
crowding net number from to =
    if nat_lt most_packets (count_on net.packets from to) then dropping net number (oldest_on net.packets from to)
    else record { after = net; sent = record { number = Some number; dropped = None } }

-- a packet is sent
abbrev pub sending : Links → ℕ → ℕ → List ℕ → Outcome
sending net from to bytes =
    if nat_lt (free_cells_of net) (cells_for (length bytes)) then refusing net
    else crowding (appending net from to bytes) net.next from to

-- what a delivery tells of a packet
abbrev pub delivery_of : Packet → Delivery
delivery_of p = record { from = p.from; to = p.to; length = length p.bytes }

-- the bytes of a packet stand in front, and the rest stays
abbrev pub copied : Option Packet → List ℕ → List ℕ
copied None out = out
copied (Some p) out = p.bytes ++ drop (length p.bytes) out

-- a copy of a packet is sent, where there is that packet
abbrev pub resending : Links → Option Packet → Links
resending net None = net
resending net (Some p) = (sending net p.from p.to p.bytes).after

abbrev pub repeating : Links → ℕ → Links
repeating net number = resending net (packet_of net.packets number)
