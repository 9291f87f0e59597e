-- The words that lines are made of. Numbers are decimal, keys hexadecimal.
use Rattle.std.specs.Prelude.{ℕ, false, List, [], ◌∷◌, ◌++◌}
use Rattle.std.specs.List.{flat_map}
use Rattle.std.specs.Fmt.{digits}

-- lower-case hexadecimal digits without leading zeros
abbrev pub hex : ℕ → List ℕ
hex n = digits 16 false n

-- the words, with one space (32) between any two
abbrev pub spaced : List (List ℕ) → List ℕ
spaced [] = []
spaced (word ∷ []) = word
spaced (word ∷ next ∷ words) = word ++ 32 ∷ spaced (next ∷ words)

-- the texts of the items, with this byte between any two
abbrev pub joined : {A : Type 0} → ℕ → (A → List ℕ) → List A → List ℕ
joined c spell [] = []
joined c spell (x ∷ xs) = spell x ++ flat_map (λ y. c ∷ spell y) xs
