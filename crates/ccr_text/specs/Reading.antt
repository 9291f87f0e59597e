-- What the parts of the reader tell of a text.
use Rattle.std.specs.Prelude.{◌≡◌, ℕ, ◌+◌, List, ◌++◌, length, Result, Ok, Err}
use Rattle.ccr_text.specs.declared.rows.Row.{Row}
use Rattle.ccr_text.specs.declared.error.TextError.{TextError}
use Rattle.ccr_text.specs.declared.error.TextError.TheVariants.{BadLine, BadChecksum, NoMemory}
use Rattle.ccr_text.specs.TableText.{AreRows, IsBadRow, row_lines}

-- after these rows something is left that is no row, and this is the number of its line
pub record StopsAt (body : List ℕ) (n : ℕ) : Type 0 where
  pub rows : List Row
  pub rest : List ℕ
  pub place : n ≡ length rows + 3
  pub form : AreRows rows
  pub begun : body ≡ row_lines rows ++ rest
  pub bad : IsBadRow rows rest

-- what follows the two first lines is read as these rows, or up to a line that is not allowed
abbrev pub ReadsRows : List ℕ → Result (List Row) TextError → Type 0
ReadsRows body (Ok rows) = AreRows rows × (body ≡ row_lines rows)
ReadsRows body (Err (BadLine n)) = StopsAt body n
ReadsRows body (Err (BadChecksum kept computed)) = ⊥
ReadsRows body (Err NoMemory) = Unit {0}
