-- The histories of groups on nodes.
use Rattle.std.specs.Prelude.{◌≡◌, ℕ, ◌==◌, ◌&&◌, not, Bool, List, Option, map}
use Rattle.std.specs.List.{find, filter, IsDistinct}
use Rattle.std.specs.Str.{bytes_eq}
use Rattle.rg_view.specs.declared.name_at.NameAt.{NameAt}
use Rattle.rg_view.specs.declared.histories.GroupAt.{GroupAt}
use Rattle.rg_view.specs.Places.{same_place, place}
use Rattle.rg_view.specs.Tables.{replaced}

-- whether this is the history of the group on the node
abbrev pub is_history_of : List ℕ → ℕ → GroupAt → Bool
is_history_of g n h = bytes_eq g h.group && (n == h.node)

-- what is listed for the group on the node
abbrev pub history_at : List GroupAt → List ℕ → ℕ → Option GroupAt
history_at histories g n = find (is_history_of g n) histories

-- with this history in the place of the one for its group and node, or at the end
abbrev pub histories_with : List GroupAt → GroupAt → List GroupAt
histories_with histories h = replaced (is_history_of h.group h.node) h histories

-- without the group on all nodes; the others keep their order
abbrev pub histories_of_others : List GroupAt → List ℕ → List GroupAt
histories_of_others histories g = filter (λ h. not (bytes_eq g h.group)) histories

-- the place that a history is of
abbrev pub place_of_history : GroupAt → NameAt
place_of_history h = place h.group h.node

-- no group and node is listed twice
abbrev pub HistoriesAreApart : List GroupAt → Type 0
HistoriesAreApart histories = IsDistinct same_place (map place_of_history histories)
