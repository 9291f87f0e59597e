-- Marks of names at nodes, as of groups that leave a node.
use Rattle.std.specs.Prelude.{◌≡◌, ℕ, not, Bool, List, [], ◌∷◌, ◌++◌, true, false, ◌==◌, ◌&&◌, if◌then◌else◌}
use Rattle.std.specs.List.{filter, list_any, IsDistinct}
use Rattle.std.specs.Str.{bytes_eq}
use Rattle.rg_view.specs.declared.name_at.NameAt.{NameAt}
use Rattle.rg_view.specs.Places.{same_place, place}

-- whether the name has the mark at the node
abbrev pub is_marked : List NameAt → List ℕ → ℕ → Bool
is_marked marks x n = list_any (same_place (place x n)) marks

-- with the mark, at the end where it is new
abbrev pub marks_with : List NameAt → List ℕ → ℕ → List NameAt
marks_with marks x n = if is_marked marks x n then marks else marks ++ place x n ∷ []

-- without the mark; the others keep their order
abbrev pub marks_without : List NameAt → List ℕ → ℕ → List NameAt
marks_without marks x n = filter (λ m. not (same_place (place x n) m)) marks

-- without the name's marks at all nodes
abbrev pub marks_of_others : List NameAt → List ℕ → List NameAt
marks_of_others marks x = filter (λ m. not (bytes_eq x m.name)) marks

-- Asking afterwards: this name at this node has the answer `there`, each other what it had.
abbrev pub MarksAfter : List NameAt → List ℕ → ℕ → Bool → List NameAt → Type 0
MarksAfter old x n there new =
    (other : List ℕ) (m : ℕ) → is_marked new other m ≡ (if bytes_eq x other && (n == m) then there else is_marked old other m)

-- Asking after all of a name are gone.
abbrev pub MarksGone : List NameAt → List ℕ → List NameAt → Type 0
MarksGone old x new =
    (other : List ℕ) (m : ℕ) → is_marked new other m ≡ (if bytes_eq x other then false else is_marked old other m)

-- no mark is listed twice
abbrev pub MarksAreApart : List NameAt → Type 0
MarksAreApart marks = IsDistinct same_place marks
