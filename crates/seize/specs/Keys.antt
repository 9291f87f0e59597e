-- The keys of a cluster's nodes, and what a reading of a device's keys shows.
use Rattle.std.specs.Prelude.{ℕ, ◌-◌, ◌*◌, ◌^◌, ◌==◌, Bool, not, List, find, Option}
use Rattle.std.specs.List.{list_any}
use Rattle.cl_base.specs.Sets.{has}

-- The number of the node whose key this is. For a key of no node it is the number of none: 0, or one of 2^32 and more.
abbrev pub node_of : ℕ → ℕ → ℕ
node_of cluster key = key - cluster * 2 ^ 32

-- whether it is the key of one of these nodes
abbrev pub is_key_of : ℕ → ℕ → ℕ → Bool
is_key_of cluster members key = has members (node_of cluster key)

abbrev pub has_key : ℕ → List ℕ → Bool
has_key key keys = list_any (λ k. k == key) keys

-- the first key that is none of these nodes'
abbrev pub first_stranger : ℕ → ℕ → List ℕ → Option ℕ
first_stranger cluster members keys = find (λ k. not (is_key_of cluster members k)) keys
