-- What a pool of cells holds, as its callers see it: one place for each cell, with the bytes of
-- the chain that begins in that cell, or None where no chain begins there.
use Rattle.std.specs.Prelude.{ℕ, ◌+◌, ◌-◌, ◌/◌, max, List, [], Option, Some, None, IsSome, unwrap_or, length, sum_by, slice_index_or}

-- the cells that so many bytes take: 256 bytes a cell, rounded up, and one cell for no bytes
abbrev pub cells_for : ℕ → ℕ
cells_for count = max 1 ((count + 255) / 256)

-- the cells that the chain of a place takes
abbrev pub cells_at : Option (List ℕ) → ℕ
cells_at None = 0
cells_at (Some bytes) = cells_for (length bytes)

-- the cells of all chains in use
abbrev pub used_cells : List (Option (List ℕ)) → ℕ
used_cells pool = sum_by cells_at pool

-- the other cells
abbrev pub free_cells : List (Option (List ℕ)) → ℕ
free_cells pool = length pool - used_cells pool

-- the chain was put into this pool, and is not given back
abbrev pub IsInUse : List (Option (List ℕ)) → ℕ → Type 0
IsInUse pool chain = IsSome (slice_index_or pool chain None)

-- the bytes of a chain in use
abbrev pub bytes_of : List (Option (List ℕ)) → ℕ → List ℕ
bytes_of pool chain = unwrap_or (slice_index_or pool chain None) []
