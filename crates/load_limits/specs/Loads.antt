-- Named limits of nodes, and what a group adds to a node's load.
use Rattle.std.specs.Prelude.{ℕ, ◌+◌, ◌-◌, ◌^◌, min, ◌==◌, nat_lt, ◌&&◌, not, Bool, List, Option, if◌then◌else◌}
use Rattle.std.specs.List.{find, filter, sum_by}
use Rattle.std.specs.Str.{bytes_eq}
use Rattle.load_limits.specs.declared.limits.Limit.{Limit}
use Rattle.load_limits.specs.declared.limits.Factor.{Factor}

-- whether this is the node's limit of the name
abbrev pub is_limit : ℕ → List ℕ → Limit → Bool
is_limit n name l = (l.node == n) && bytes_eq l.name name

-- the node's limit of this name, among limits in order of creation
abbrev pub limit_of : List Limit → ℕ → List ℕ → Option Limit
limit_of limits n name = find (is_limit n name) limits

-- the others, in their order
abbrev pub limits_without : List Limit → ℕ → List ℕ → List Limit
limits_without limits n name = filter (λ l. not (is_limit n name l)) limits

-- those of other nodes
abbrev pub limits_of_others : List Limit → ℕ → List Limit
limits_of_others limits n = filter (λ l. not (l.node == n)) limits

-- what a factor adds to the load of this name
abbrev pub share : List ℕ → Factor → ℕ
share name f = if bytes_eq f.name name then f.load else 0

-- the load of this name by all the factors; a sum that would pass 2^63 - 1 stays there
unfoldable pub load : List ℕ → List Factor → ℕ
load name factors = min (sum_by (share name) factors) (2 ^ 63 - 1)

-- the load with that of the group: it, too, stays at 2^63 - 1
abbrev pub load_with : List ℕ → List Factor → List Factor → ℕ
load_with name counted own = min (load name own + load name counted) (2 ^ 63 - 1)

-- whether the group, whose own factors these are, brings the node's load of the limit above this bound: never without a load of its own
abbrev pub brings_over : List Factor → List Factor → List ℕ → ℕ → Bool
brings_over counted own name bound = nat_lt 0 (load name own) && nat_lt bound (load_with name counted own)

-- a limit of node n whose hard bound it passes
abbrev pub is_over : ℕ → List Factor → List Factor → Limit → Bool
is_over n counted own l = (l.node == n) && brings_over counted own l.name l.hard

abbrev pub first_over_of : List Limit → ℕ → List Factor → List Factor → Option Limit
first_over_of limits n counted own = find (is_over n counted own) limits

-- how many limits of node n it brings above their soft bound
abbrev pub is_over_soft : ℕ → List Factor → List Factor → Limit → Bool
is_over_soft n counted own l = (l.node == n) && brings_over counted own l.name l.soft
