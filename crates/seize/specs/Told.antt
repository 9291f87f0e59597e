-- What a result is that a message tells.
use Rattle.std.specs.Prelude.{ℕ, nat_lt, if◌then◌else◌, List, length, Option, Some, None, option_map}
use Rattle.cl_base.specs.Limits.{most_nodes}
use Rattle.cl_base.specs.Seizings.{SeizeResult}
use Rattle.cl_base.specs.declared.seizing.SeizeEnd.TheVariants.{Held, NotRegistered, Greater, Expelled, Contended, Fault}

-- the keys, where they are no more than a device has: one of each node
abbrev pub read_keys : List ℕ → Option (List ℕ)
read_keys keys = if nat_lt most_nodes (length keys) then None else Some keys

-- the same result, where it has no more keys
abbrev pub read_of : SeizeResult → Option SeizeResult
read_of (Held keys) = option_map (λ read. Held read) (read_keys keys)
read_of (NotRegistered keys) = option_map (λ read. NotRegistered read) (read_keys keys)
read_of (Greater word) = Some (Greater word)
read_of Expelled = Some Expelled
read_of (Contended key) = Some (Contended key)
read_of Fault = Some Fault
