-- The text of a table, and the ways in which a text is not one.
use Rattle.std.specs.Prelude.{◌≡◌, ◌≢◌, ℕ, ◌+◌, ◌<◌, ◌≤◌, ◌^◌, ◌⊎◌, List, [], ◌∷◌, ◌++◌, length, All, codes, Result, Ok, Err}
use Rattle.std.specs.Fmt.{decimal}
use Rattle.sha2.specs.Sha256.{sha256}
use Rattle.hex.specs.Hex.{encode_lower, IsBytes}
use Rattle.ccr_text.specs.declared.rows.Row.{Row}
use Rattle.ccr_text.specs.declared.error.TextError.{TextError}
use Rattle.ccr_text.specs.declared.error.TextError.TheVariants.{BadLine, BadChecksum, NoMemory}

-- neither a tab, which is 9, nor a newline, which is 10
abbrev pub IsPlain : List ℕ → Type 0
IsPlain bytes = All (λ b. (b ≢ 9) × (b ≢ 10)) bytes

-- a key of 1 to 80 bytes and a value of at most 65,535, neither with a tab or a newline
pub record IsRow (row : Row) : Type 0 where
  pub some : 1 ≤ length row.key
  pub short : length row.key ≤ 80
  pub most : length row.value ≤ 65535
  pub key : IsPlain row.key
  pub value : IsPlain row.value

-- it is a row, and none before it has its key
pub record MayFollow (before : List Row) (row : Row) : Type 0 where
  pub form : IsRow row
  pub fresh : All (λ other. other.key ≢ row.key) before

-- each of the rows may follow all that come before it
abbrev pub MayAllFollow : List Row → List Row → Type 0
MayAllFollow before [] = Unit {0}
MayAllFollow before (row ∷ rows) = MayFollow before row × MayAllFollow (before ++ row ∷ []) rows

-- the rows of a table: their keys are distinct
abbrev pub AreRows : List Row → Type 0
AreRows rows = MayAllFollow [] rows

-- the first line: the generation number in decimal digits
abbrev pub gennum_line : ℕ → List ℕ
gennum_line gennum = codes "ccr_gennum " ++ (decimal gennum ++ 10 ∷ [])

-- the second line: a digest in lower-case hexadecimal digits
abbrev pub checksum_line : List ℕ → List ℕ
checksum_line digest = codes "ccr_checksum " ++ (encode_lower digest ++ 10 ∷ [])

-- a row's line: the key, a tab, the value
abbrev pub row_line : Row → List ℕ
row_line row = row.key ++ 9 ∷ (row.value ++ 10 ∷ [])

abbrev pub row_lines : List Row → List ℕ
row_lines [] = []
row_lines (row ∷ rows) = row_line row ++ row_lines rows

-- a text with all its lines, whichever digest it keeps
abbrev pub text_with : ℕ → List ℕ → List Row → List ℕ
text_with gennum digest rows = gennum_line gennum ++ (checksum_line digest ++ row_lines rows)

-- the text of a table keeps the SHA-256 of the bytes of its rows
abbrev pub table_text : ℕ → List Row → List ℕ
table_text gennum rows = text_with gennum (sha256 (row_lines rows)) rows

-- the text is this table's
pub record IsTable (text : List ℕ) (gennum : ℕ) (rows : List Row) : Type 0 where
  pub fits : gennum < 2 ^ 64
  pub form : AreRows rows
  pub spelled : text ≡ table_text gennum rows

-- a digest has 32 bytes
pub record IsDigest (digest : List ℕ) : Type 0 where
  pub size : length digest ≡ 32
  pub bytes : IsBytes digest

-- no first line begins the text
pub record IsBadFirst (text : List ℕ) : Type 0 where
  pub none : (gennum : ℕ) (rest : List ℕ) → gennum < 2 ^ 64 → text ≢ gennum_line gennum ++ rest

-- no second line begins what follows the first
pub record IsBadSecond (text : List ℕ) : Type 0 where
  pub gennum : ℕ
  pub rest : List ℕ
  pub fits : gennum < 2 ^ 64
  pub begun : text ≡ gennum_line gennum ++ rest
  pub none : (digest more : List ℕ) → IsDigest digest → rest ≢ checksum_line digest ++ more

-- something is left after these rows, and no row that may follow them begins it
pub record IsBadRow (before : List Row) (rest : List ℕ) : Type 0 where
  pub left : rest ≢ []
  pub none : (row : Row) (more : List ℕ) → MayFollow before row → rest ≢ row_line row ++ more

-- so it is after the two first lines and these rows
pub record IsBadAfter (text : List ℕ) (rows : List Row) : Type 0 where
  pub gennum : ℕ
  pub digest : List ℕ
  pub rest : List ℕ
  pub fits : gennum < 2 ^ 64
  pub kept : IsDigest digest
  pub form : AreRows rows
  pub begun : text ≡ gennum_line gennum ++ (checksum_line digest ++ (row_lines rows ++ rest))
  pub bad : IsBadRow rows rest

-- line n, counted from 1, is the first that is not allowed: it is missing among the two first, has another form
-- than the line that belongs there, repeats a key, or lacks its newline
abbrev pub IsBadLine : List ℕ → ℕ → Type 0
IsBadLine text n =
    ((n ≡ 1) × IsBadFirst text)
    ⊎ ((n ≡ 2) × IsBadSecond text)
    ⊎ ((rows : List Row) × (n ≡ length rows + 3) × IsBadAfter text rows)

-- each line is allowed, but the digest kept is not that of the rows
pub record IsBadChecksum (text kept computed : List ℕ) : Type 0 where
  pub gennum : ℕ
  pub rows : List Row
  pub fits : gennum < 2 ^ 64
  pub digest : IsDigest kept
  pub form : AreRows rows
  pub spelled : text ≡ text_with gennum kept rows
  pub computes : computed ≡ sha256 (row_lines rows)
  pub differ : kept ≢ computed

-- the answer that a text asks for: the table whose text it is, the first line that is not allowed, or, where
-- every line is, the two digests that differ
abbrev pub IsAnswer : List ℕ → Result (ℕ × List Row) TextError → Type 0
IsAnswer text (Ok found) = IsTable text found.0 found.1
IsAnswer text (Err (BadLine n)) = IsBadLine text n
IsAnswer text (Err (BadChecksum kept computed)) = IsBadChecksum text kept.bytes computed.bytes
IsAnswer text (Err NoMemory) = ⊥
