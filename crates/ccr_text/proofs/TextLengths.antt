-- How many bytes the lines of a table have.
use Rattle.std.proofs.Common.{◌≡◌, ℕ, ◌+◌, ◌*◌, List, [], ◌∷◌, ◌++◌, length, refl, arith}
use Rattle.std.specs.Prelude.{codes}
use Rattle.std.specs.Fmt.{decimal}
use Rattle.std.proofs.lemmas.List.{length-append}
use Rattle.sha2.specs.Sha256.{sha256}
use Rattle.sha2.proofs.Facts256.{length-sha256}
use Rattle.hex.specs.Hex.{encode_with, encode_lower, lower_digits}
use Rattle.ccr_text.specs.declared.rows.Row.{Row}
use Rattle.ccr_text.specs.TableText.{gennum_line, checksum_line, row_line, row_lines}
use Rattle.ccr_text.specs.Lengths.{rows_length, TextsHaveTheirLength}

hex_length : (t bytes : List ℕ) → length (encode_with t bytes) ≡ 2 * length bytes
unfolding encode_with
hex_length t [] = refl
hex_length t (b ∷ bytes) = omega (arith, hex_length t bytes)

row_is : (row : Row) → length (row_line row) ≡ length row.key + length row.value + 2
row_is row = omega (arith, length-append row.key (9 ∷ (row.value ++ 10 ∷ [])), length-append row.value (10 ∷ []))

rows_are : (rows : List Row) → length (row_lines rows) ≡ rows_length rows
rows_are [] = refl
rows_are (row ∷ rows) = omega (arith, length-append (row_line row) (row_lines rows), row_is row, rows_are rows)

first_is : (n : ℕ) → length (gennum_line n) ≡ 12 + length (decimal n)
first_is n = omega (arith, length-append (codes "ccr_gennum ") (decimal n ++ 10 ∷ []), length-append (decimal n) (10 ∷ []))

second_is : (digest : List ℕ) → length digest ≡ 32 → length (checksum_line digest) ≡ 78
second_is digest e =
    omega (arith, e, hex_length lower_digits digest, length-append (codes "ccr_checksum ") (encode_lower digest ++ 10 ∷ []), length-append (encode_lower digest) (10 ∷ []))

pub texts : TextsHaveTheirLength
texts gennum rows =
    let body : List ℕ = row_lines rows in
    let digest : List ℕ = sha256 (row_lines rows) in
    omega (arith, length-append (gennum_line gennum) (checksum_line digest ++ body), length-append (checksum_line digest) body, first_is gennum, second_is digest (length-sha256 body), rows_are rows)
