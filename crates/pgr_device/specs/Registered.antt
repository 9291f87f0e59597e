-- What a list of registrations says, and what the commands make of it.
use Rattle.std.specs.Prelude.{ℕ, ◌==◌, Bool, not, if◌then◌else◌, List, map, filter, find, Option, option_map}
use Rattle.std.specs.List.{list_any}
use Rattle.pgr_device.specs.declared.registration.Registration.{Registration}

-- the key that a node has registered
abbrev pub registered_key : List Registration → ℕ → Option ℕ
registered_key registrations node = option_map (λ r. r.key) (find (λ r. r.node == node) registrations)

-- whether a node has registered a key
abbrev pub is_registered : List Registration → ℕ → Bool
is_registered registrations node = list_any (λ r. r.node == node) registrations

-- whether some node has registered this key
abbrev pub has_key : List Registration → ℕ → Bool
has_key registrations key = list_any (λ r. r.key == key) registrations

-- the registered keys, in order of registration
abbrev pub keys_of : List Registration → List ℕ
keys_of registrations = map (λ r. r.key) registrations

-- a registration, after a node took another key
abbrev pub rekeyed : ℕ → ℕ → Registration → Registration
rekeyed node key r = if r.node == node then record { node = node; key = key } else r

-- the registrations of all other nodes
abbrev pub without_node : ℕ → List Registration → List Registration
without_node node registrations = filter (λ r. not (r.node == node)) registrations

-- the registrations of all other keys
abbrev pub without_key : ℕ → List Registration → List Registration
without_key key registrations = filter (λ r. not (r.key == key)) registrations
