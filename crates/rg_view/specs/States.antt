-- The flags and marks of resources on nodes.
use Rattle.std.specs.Prelude.{◌≡◌, ℕ, ◌==◌, ◌&&◌, not, false, Bool, List, Option, map}
use Rattle.std.specs.List.{find, filter, IsDistinct}
use Rattle.std.specs.Option.{unwrap_or}
use Rattle.std.specs.Str.{bytes_eq}
use Rattle.rg_view.specs.declared.name_at.NameAt.{NameAt}
use Rattle.rg_view.specs.declared.states.ResourceAt.{ResourceAt}
use Rattle.rg_view.specs.Places.{same_place, place}
use Rattle.rg_view.specs.Tables.{replaced}

-- whether this is the state of the resource on the node
abbrev pub is_state_of : List ℕ → ℕ → ResourceAt → Bool
is_state_of r n s = bytes_eq r s.resource && (n == s.node)

-- what is listed for the resource on the node
abbrev pub state_at : List ResourceAt → List ℕ → ℕ → Option ResourceAt
state_at states r n = find (is_state_of r n) states

-- no flag and no mark
abbrev pub unmarked : List ℕ → ℕ → ResourceAt
unmarked r n = record { resource = r; node = n; pre = false; run = false; mon = false; faulted = false; stop_failed = false; monitor_failed = false }

-- the resource's flags and marks on the node: none where nothing is listed
abbrev pub state_of : List ResourceAt → List ℕ → ℕ → ResourceAt
state_of states r n = unwrap_or (state_at states r n) (unmarked r n)

-- with this state in the place of the one for its resource and node, or at the end
abbrev pub states_with : List ResourceAt → ResourceAt → List ResourceAt
states_with states s = replaced (is_state_of s.resource s.node) s states

-- without the resource on the node; the others keep their order
abbrev pub states_without : List ResourceAt → List ℕ → ℕ → List ResourceAt
states_without states r n = filter (λ s. not (is_state_of r n s)) states

-- without the resource on all nodes
abbrev pub states_of_others : List ResourceAt → List ℕ → List ResourceAt
states_of_others states r = filter (λ s. not (bytes_eq r s.resource)) states

-- the place that a state is of
abbrev pub place_of_state : ResourceAt → NameAt
place_of_state s = place s.resource s.node

-- no resource and node is listed twice
abbrev pub StatesAreApart : List ResourceAt → Type 0
StatesAreApart states = IsDistinct same_place (map place_of_state states)
