-- Flags of places.
use Rattle.std.specs.Prelude.{ℕ, Bool, false, List, slice_index_or}

-- whether the place is flagged; a place past the last is not
abbrev pub flag : List Bool → ℕ → Bool
flag flags p = slice_index_or flags p false
