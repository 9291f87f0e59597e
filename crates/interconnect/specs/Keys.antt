-- The keys of the packets in flight, link by link: a table with a list for each pair of nodes.
use Rattle.std.specs.Prelude.{ℕ, ◌+◌, ◌-◌, ◌*◌, ◌≤◌, ◌≡◌, ◌==◌, ◌&&◌, Bool, false, List, [], map, filter, slice_index_or}
use Rattle.interconnect.specs.Stored.{Stored}

-- these are numbers of nodes
pub record AreNodes (from to : ℕ) : Type 0 where
  pub from_low : 1 ≤ from
  pub from_high : from ≤ 32
  pub to_low : 1 ≤ to
  pub to_high : to ≤ 32

-- the link from f to t is another than that of from and to
abbrev pub IsOther : ℕ → ℕ → ℕ → ℕ → Type 0
IsOther f t from to = ((from == f) && (to == t)) ≡ false

-- the place of a link in the table
abbrev pub link_of : ℕ → ℕ → ℕ
link_of from to = (from - 1) * 32 + (to - 1)

-- the keys that the table has for a link
abbrev pub keys_on : List (List ℕ) → ℕ → ℕ → List ℕ
keys_on links from to = slice_index_or links (link_of from to) []

-- whether a packet is on its way from one node to another
abbrev pub is_stored_on : ℕ → ℕ → Stored → Bool
is_stored_on from to h = (h.from == from) && (h.to == to)

-- the table has the keys of these packets, and no others
abbrev pub IsIndex : List (List ℕ) → List Stored → Type 0
IsIndex links held =
    (from to : ℕ) → AreNodes from to → keys_on links from to ≡ map (λ h. h.key) (filter (is_stored_on from to) held)
