-- What is known of places before the choice.
use Rattle.std.specs.Prelude.{◌≡◌, ℕ, ◌<◌, ◌==◌, ◌&&◌, Bool, false, List, [], ◌∷◌, ◌++◌, length, Option, None, Some, slice_index_or, slice_set, if◌then◌else◌}
use Rattle.std.specs.List.{filter, list_any, AllByRecursion}
use Rattle.std.specs.Global.{Vec}
use Rattle.rg_deps.specs.declared.graph.Thing.{Thing}
use Rattle.rg_deps.specs.declared.graph.Edge.{Edge}

-- each has a greater place than those before it
abbrev pub IsAscending : List Thing → Type 0
IsAscending [] = Unit {0}
IsAscending (t ∷ ts) = AllByRecursion (λ u. t.place < u.place) ts × IsAscending ts

-- the place that comes after q by this edge
abbrev pub behind_by : Edge → ℕ → List ℕ
behind_by e q = if q == e.to then e.from ∷ [] else []

-- the places that come after q, once for each edge
abbrev pub behind : List Edge → ℕ → List ℕ
behind [] q = []
behind (e ∷ es) q = behind_by e q ++ behind es q

-- how many edges a place has
abbrev pub edge_count : List Edge → ℕ → ℕ
edge_count edges p = length (filter (λ e. p == e.from) edges)

-- whether p is the place of a thing of this priority
abbrev pub is_thing_of : List Thing → ℕ → ℕ → Bool
is_thing_of things n p = list_any (λ t. (p == t.place) && (n == t.priority)) things

abbrev pub is_some_of : Option ℕ → ℕ → Bool
is_some_of None n = false
is_some_of (Some m) n = n == m

-- whether the table has this priority at p
abbrev pub is_priority : List (Option ℕ) → ℕ → ℕ → Bool
is_priority table n p = is_some_of (slice_index_or table p None) n

abbrev pub with_priority : List (Option ℕ) → Thing → List (Option ℕ)
with_priority table t = slice_set table t.place (Some t.priority)

-- each list has the places that come after its own
abbrev pub AreBehind : List Edge → List (Vec ℕ) → Type 0
AreBehind edges lists = (q : ℕ) (d : Vec ℕ) → q < length lists → (slice_index_or lists q d).items ≡ behind edges q
