-- Lists that have one entry for each name and node, and looking up in them.
use Rattle.std.specs.Prelude.{◌≡◌, ℕ, ◌==◌, ◌&&◌, Bool, List, [], ◌∷◌, Option, None, if◌then◌else◌}
use Rattle.std.specs.List.{IsDistinct}
use Rattle.std.specs.Map.{keys_of}
use Rattle.std.specs.Str.{bytes_eq}
use Rattle.rg_view.specs.declared.name_at.NameAt.{NameAt}
use Rattle.rg_view.specs.Places.{same_place}

-- the list with x in the place of the first that passes the test, or at the end where none does
abbrev pub replaced : {X : Type 0} → (X → Bool) → X → List X → List X
replaced test x [] = x ∷ []
replaced test x (y ∷ ys) = if test y then x ∷ ys else y ∷ replaced test x ys

-- Looking up afterwards: at this name and node it gives `found`, at each other what it gave before.
abbrev pub FindsAt : {X : Type 0} → (List X → List ℕ → ℕ → Option X) → List X → List ℕ → ℕ → Option X → List X → Type 0
FindsAt at old name n found new =
    (other : List ℕ) (m : ℕ) → at new other m ≡ (if bytes_eq name other && (n == m) then found else at old other m)

-- Looking up after all of a name are gone: at this name nothing, at each other what was there.
abbrev pub LosesAt : {X : Type 0} → (List X → List ℕ → ℕ → Option X) → List X → List ℕ → List X → Type 0
LosesAt at old name new =
    (other : List ℕ) (m : ℕ) → at new other m ≡ (if bytes_eq name other then None else at old other m)

-- each entry is kept under the place that it tells
abbrev pub IsKeyed : {X : Type 0} → (X → NameAt) → List (NameAt × X) → Type 0
IsKeyed place_of [] = Unit {0}
IsKeyed place_of (e ∷ es) = (e.0 ≡ place_of e.1) × IsKeyed place_of es

-- no two entries are of one place
pub record IsTable {X : Type 0} (place_of : X → NameAt) (entries : List (NameAt × X)) : Type 0 where
  pub keyed : IsKeyed place_of entries
  pub apart : IsDistinct same_place (keys_of entries)
