-- Texts with a byte between.
use Rattle.std.specs.Prelude.{ℕ, List, [], ◌∷◌, ◌++◌}
use Rattle.std.specs.List.{flat_map}

-- the texts of the items, with this byte between any two
abbrev pub joined : {A : Type 0} → ℕ → (A → List ℕ) → List A → List ℕ
joined c spell [] = []
joined c spell (x ∷ xs) = spell x ++ flat_map (λ y. c ∷ spell y) xs

-- words with one space (32) between
abbrev pub spaced : List (List ℕ) → List ℕ
spaced words = joined 32 (λ word. word) words
