-- The sets of nodes that are the goals of groups. A group that is not listed has the empty set.
use Rattle.std.specs.Prelude.{◌≡◌, ℕ, not, List, Option, if◌then◌else◌}
use Rattle.std.specs.List.{filter, IsDistinct}
use Rattle.std.specs.Map.{lookup, keys_of}
use Rattle.std.specs.Option.{unwrap_or}
use Rattle.std.specs.Str.{bytes_eq}
use Rattle.rg_view.specs.Tables.{replaced}

-- the nodes that are the group's goal
abbrev pub goal_of : List (List ℕ × ℕ) → List ℕ → ℕ
goal_of goals g = unwrap_or (lookup (bytes_eq g) goals) 0

-- with these nodes in the place of the group's, or at the end
abbrev pub goals_with : List (List ℕ × ℕ) → List ℕ → ℕ → List (List ℕ × ℕ)
goals_with goals g nodes = replaced (λ e. bytes_eq g e.0) (g, nodes) goals

-- without the group; the others keep their order
abbrev pub goals_without : List (List ℕ × ℕ) → List ℕ → List (List ℕ × ℕ)
goals_without goals g = filter (λ e. not (bytes_eq g e.0)) goals

-- The goals afterwards: this group has these nodes, each other what it had.
abbrev pub GoalsAfter : List (List ℕ × ℕ) → List ℕ → ℕ → List (List ℕ × ℕ) → Type 0
GoalsAfter old g nodes new = (other : List ℕ) → goal_of new other ≡ (if bytes_eq g other then nodes else goal_of old other)

-- no group is listed twice
abbrev pub GoalsAreApart : List (List ℕ × ℕ) → Type 0
GoalsAreApart goals = IsDistinct bytes_eq (keys_of goals)
