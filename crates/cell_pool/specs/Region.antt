-- How chains lie in the region of cells: each cell has a link to another cell, and a chain of so
-- many cells is its first cell with those that the links lead to. The free cells are one chain too.
use Rattle.std.specs.Prelude.{ℕ, suc, zero, ◌+◌, ◌<◌, ◌≤◌, ◌==◌, if◌then◌else◌, ◌≡◌, List, [], ◌∷◌, ◌++◌, Option, Some, None, length, take, drop, sum_by, slice_index_or, slice_set}
use Rattle.cell_pool.specs.Cells.{cells_for}

-- the cells that the links lead through, so many from the first
abbrev pub walk : List ℕ → ℕ → ℕ → List ℕ
walk links first zero = []
walk links first (suc count) = first ∷ walk links (slice_index_or links first 0) count

-- the cell that comes after so many
abbrev pub after : List ℕ → ℕ → ℕ → ℕ
after links first zero = first
after links first (suc count) = after links (slice_index_or links first 0) count

-- how often a cell stands in a list of cells
abbrev pub times : ℕ → List ℕ → ℕ
times cell [] = 0
times cell (x ∷ rest) = (if x == cell then 1 else 0) + times cell rest

-- the cells of the chain that begins at a place; each place has its chain's length in bytes
abbrev pub chain_at : List ℕ → ℕ → Option ℕ → List ℕ
chain_at links place None = []
chain_at links place (Some count) = walk links place (cells_for count)

-- the cells of the chains that begin at this place or later
abbrev pub chained : List ℕ → ℕ → List (Option ℕ) → List ℕ
chained links place [] = []
chained links place (x ∷ rest) = chain_at links place x ++ chained links (suc place) rest

-- the cells that a chain of this length takes
abbrev pub taken_by : Option ℕ → ℕ
taken_by None = 0
taken_by (Some count) = cells_for count

-- the content of these cells, one after another
abbrev pub content : List (List ℕ) → List ℕ → List ℕ
content cells [] = []
content cells (c ∷ rest) = slice_index_or cells c [] ++ content cells rest

-- the bytes of the chain that begins at a place
abbrev pub text_at : List (List ℕ) → List ℕ → ℕ → Option ℕ → Option (List ℕ)
text_at cells links place None = None
text_at cells links place (Some count) = Some (take count (content cells (walk links place (cells_for count))))

-- the bytes of each chain, at its place
abbrev pub chains_from : List (List ℕ) → List ℕ → ℕ → List (Option ℕ) → List (Option (List ℕ))
chains_from cells links place [] = []
chains_from cells links place (x ∷ rest) = text_at cells links place x ∷ chains_from cells links (suc place) rest

-- each cell is once in the free chain or in one chain in use: none is in two, and free and used are all
pub record IsWhole (cells : List (List ℕ)) (links : List ℕ) (lengths : List (Option ℕ)) (free_first free_count : ℕ) : Type 0 where
  pub a_link_each : length links ≡ length lengths
  pub a_cell_each : length cells ≡ length lengths
  pub full_size : (c : ℕ) → c < length cells → length (slice_index_or cells c []) ≡ 256
  pub once : (c : ℕ) → times c (walk links free_first free_count ++ chained links 0 lengths) ≤ 1
  pub inside : (c : ℕ) → 0 < times c (walk links free_first free_count ++ chained links 0 lengths) → c < length lengths
  pub all : free_count + sum_by taken_by lengths ≡ length lengths

-- the cells once these hold the data, 256 bytes each; what a last cell does not need stays
abbrev pub filled : List (List ℕ) → List ℕ → List ℕ → List (List ℕ)
filled cells [] bytes = cells
filled cells (c ∷ rest) bytes =
    filled (slice_set cells c (take 256 bytes ++ drop (length (take 256 bytes)) (slice_index_or cells c []))) rest (drop 256 bytes)
