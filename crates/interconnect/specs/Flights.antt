-- How the packets in flight stand in the pool: each has a chain of its own there.
use Rattle.std.specs.Prelude.{ℕ, ◌+◌, ◌≤◌, ◌≡◌, ◌≢◌, ◌^◌, List, [], ◌∷◌, Option, length, map, sum_by}
use Rattle.cell_pool.specs.Cells.{IsInUse, bytes_of, used_cells}
use Rattle.cl_base.specs.Limits.{most_packets}
use Rattle.slab.specs.Slab.{Slab, slab_len}
use Rattle.interconnect.specs.declared.flight.Held.{Held}
use Rattle.interconnect.specs.Links.{Packet, cells_of, count_on}
use Rattle.interconnect.specs.Keys.{IsIndex}
use Rattle.interconnect.specs.Places.{Numbered}
use Rattle.interconnect.specs.Stored.{Stored, all_stored, Agrees}

-- the packet with its bytes
abbrev pub shown : List (Option (List ℕ)) → Stored → Packet
shown pool h = record { number = h.number; from = h.from; to = h.to; bytes = bytes_of pool h.chain }

-- the packets with their bytes
abbrev pub all_shown : List (Option (List ℕ)) → List Stored → List Packet
all_shown pool held = map (shown pool) held

-- the numbers rise, from low on, and stay below the next
abbrev pub IsRising : ℕ → List Stored → ℕ → Type 0
IsRising low [] next = low ≤ next
IsRising low (h ∷ rest) next = (low ≤ h.number) × IsRising (h.number + 1) rest next

-- no packet of these has the chain
abbrev pub LacksChain : ℕ → List Stored → Type 0
LacksChain chain [] = Unit {0}
LacksChain chain (h ∷ rest) = (h.chain ≢ chain) × LacksChain chain rest

-- each packet has a chain of its own, of at most 131,072 bytes
abbrev pub IsApart : List (Option (List ℕ)) → List Stored → Type 0
IsApart pool [] = Unit {0}
IsApart pool (h ∷ rest) =
    IsInUse pool h.chain × (length (bytes_of pool h.chain) ≤ 131072) × LacksChain h.chain rest × IsApart pool rest

-- the packets, their chains and the next number fit together
pub record IsSound (pool : List (Option (List ℕ))) (held : List Stored) (room next : ℕ) : Type 0 where
  pub rising : IsRising 1 held next
  pub apart : IsApart pool held
  pub used : used_cells pool ≡ sum_by cells_of (all_shown pool held)
  pub enough : length pool ≤ room

-- the slab holds these packets and no others, and has room for the most, under keys of 32 bits
pub record IsHolding (packets : Slab Held) (numbers : Numbered) : Type 0 where
  pub agrees : Agrees packets numbers.held
  pub all : slab_len packets ≡ length numbers.held
  pub enough : numbers.most ≤ packets.capacity
  pub short : packets.capacity ≤ 2 ^ 32

-- the slab holds the packets, they fit the pool, and the table of the links has their keys
pub record IsWhole (pool : List (Option (List ℕ))) (packets : Slab Held) (numbers : Numbered) (links : List (List ℕ)) : Type 0 where
  pub holding : IsHolding packets numbers
  pub sound : IsSound pool (all_stored packets numbers.held) numbers.most numbers.next
  pub index : IsIndex links (all_stored packets numbers.held)

-- no link has more packets than it holds
abbrev pub IsUncrowded : List Packet → Type 0
IsUncrowded packets = (from to : ℕ) → count_on packets from to ≤ most_packets
