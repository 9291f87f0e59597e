-- How many bytes the text of a table has.
use Rattle.std.specs.Prelude.{◌≡◌, ℕ, ◌+◌, List, [], ◌∷◌, length}
use Rattle.std.specs.Fmt.{decimal}
use Rattle.ccr_text.specs.declared.rows.Row.{Row}
use Rattle.ccr_text.specs.TableText.{table_text}

-- for each row its key, a tab, its value and a newline
abbrev pub rows_length : List Row → ℕ
rows_length [] = 0
rows_length (row ∷ rows) = length row.key + length row.value + 2 + rows_length rows

-- the two first lines have 90 bytes and the digits of the generation number
abbrev pub table_length : ℕ → List Row → ℕ
table_length gennum rows = 90 + length (decimal gennum) + rows_length rows

abbrev pub TextsHaveTheirLength : Type 0
TextsHaveTheirLength = (gennum : ℕ) (rows : List Row) → length (table_text gennum rows) ≡ table_length gennum rows
