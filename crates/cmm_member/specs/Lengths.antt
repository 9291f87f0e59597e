-- How long a record's text is, and what none is longer than.
use Rattle.std.specs.Prelude.{◌≡◌, ◌<◌, ◌≤◌, ◌+◌, ◌^◌, ℕ, true, List, [], ◌∷◌, ◌++◌, replicate, length, codes}
use Rattle.cl_base.specs.Limits.{most_nodes}
use Rattle.cl_base.specs.Numbers.{set_text}
use Rattle.cl_base.specs.Sets.{has}
use Rattle.ccr_commit.specs.Entries.{texts_of}
use Rattle.ccr_text.specs.declared.rows.Row.{Row}
use Rattle.ccr_text.specs.Lengths.{rows_length, table_length}
use Rattle.ccr_text.specs.TableText.{IsTable}
use Rattle.cmm_member.specs.Records.{NodeRecord, row, rows_of, update_rows}

-- after so many saves
abbrev pub record_length : ℕ → NodeRecord → ℕ
record_length saves r = table_length saves (rows_of r)

-- as many digits as a number of 64 bits has at most
abbrev pub twenty_digits : List ℕ
twenty_digits = replicate 20 57

-- the rows of a record whose epochs have 20 digits, with these members and valid devices, and these updates, all of them committed
abbrev pub full_rows : ℕ → ℕ → List (List ℕ) → List Row
full_rows members valid texts =
    row (codes "promised") twenty_digits ∷ row (codes "installed") twenty_digits ∷ row (codes "members") (set_text members) ∷ row (codes "valid") (set_text valid)
    ∷ update_rows 0 texts

-- .. and the number of saves has 20 digits
abbrev pub full_length : ℕ → ℕ → List (List ℕ) → ℕ
full_length members valid texts = 110 + rows_length (full_rows members valid texts)

abbrev pub RecordsHaveTheirLength : Type 0
RecordsHaveTheirLength = (text : List ℕ) (saves : ℕ) (r : NodeRecord) → IsTable text saves (rows_of r) → length text ≡ record_length saves r

-- each member is one of these nodes, each valid device one of these devices, and there is a member
pub record IsWithin (r : NodeRecord) (nodes devices : ℕ) : Type 0 where
  pub members : (n : ℕ) → has r.members n ≡ true → has nodes n ≡ true
  pub valid : (d : ℕ) → has r.valid d ≡ true → has devices d ≡ true
  pub member : ℕ
  pub some : has r.members member ≡ true
  pub most : member ≤ most_nodes

-- a record with these updates, or with the first of them, where numbers of saves and epochs stay below 2^63
abbrev pub NoRecordIsLonger : Type 0
NoRecordIsLonger = (nodes devices saves : ℕ) (r : NodeRecord) (more : List (List ℕ)) → IsWithin r nodes devices → saves < 2 ^ 63 → r.promised < 2 ^ 63 → r.installed < 2 ^ 63
    → record_length saves r ≤ full_length nodes devices (texts_of r.entries ++ more)
