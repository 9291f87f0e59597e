-- The numbers of a set, and how lists of numbers are written.
use Rattle.std.specs.Prelude.{ℕ, zero, suc, if◌then◌else◌, List, [], ◌∷◌, ◌++◌, codes}
use Rattle.std.specs.List.{flat_map}
use Rattle.std.specs.Fmt.{decimal}
use Rattle.cl_base.specs.Sets.{has, set_with}

-- the numbers 1 to k that the set has, in ascending order
abbrev pub numbers_to : ℕ → ℕ → List ℕ
numbers_to set zero = []
numbers_to set (suc k) = if has set (suc k) then numbers_to set k ++ suc k ∷ [] else numbers_to set k

-- numbers with commas (44) between, or `none`
abbrev pub by_commas : List ℕ → List ℕ
by_commas [] = codes "none"
by_commas (n ∷ ns) = decimal n ++ flat_map (λ m. 44 ∷ decimal m) ns

-- the numbers of a set, which are 1 to 32
unfoldable pub set_text : ℕ → List ℕ
set_text set = by_commas (numbers_to set 32)

-- the set of the numbers 1 to k
abbrev pub first_numbers : ℕ → ℕ
first_numbers zero = 0
first_numbers (suc k) = set_with (first_numbers k) (suc k)
