-- What a node keeps durably, and the rows that its table has for it.
use Rattle.std.specs.Prelude.{ℕ, ◌≤◌, ◌<◌, ◌^◌, ◌+◌, List, [], ◌∷◌, ◌++◌, length, Option, Some, None, codes}
use Rattle.std.specs.Fmt.{decimal}
use Rattle.cl_base.specs.Numbers.{set_text}
use Rattle.ccr_commit.specs.Entries.{EntryList, no_entries}
use Rattle.ccr_text.specs.declared.rows.Row.{Row}
use Rattle.ccr_text.specs.TableText.{IsTable, IsPlain}

-- a node's record
pub record NodeRecord : Type 0 where
  -- the greatest epoch that it promised
  pub promised : ℕ
  -- the epoch that it installed last, or 0, and the members of that attempt
  pub installed : ℕ
  pub members : ℕ
  -- the devices that are valid to it
  pub valid : ℕ
  -- the updates of the configuration
  pub entries : EntryList

-- the record that an empty disk stands for: it promised and installed nothing
abbrev pub first_record : ℕ → NodeRecord
first_record valid = record { promised = 0; installed = 0; members = 0; valid = valid; entries = no_entries }

-- what holds of each record: what is installed was promised, and numbers and sets have their widths
pub record IsRecord (r : NodeRecord) : Type 0 where
  pub order : r.installed ≤ r.promised
  pub width : r.promised < 2 ^ 64
  pub nodes : r.members < 2 ^ 32
  pub devices : r.valid < 2 ^ 16
  pub count : length r.entries.committed < 2 ^ 64

abbrev pub row : List ℕ → List ℕ → Row
row key value = record { key = key; value = value }

-- committed updates by their places, which count from 1
abbrev pub update_rows : ℕ → List (List ℕ) → List Row
update_rows before [] = []
update_rows before (text ∷ texts) = row (codes "update." ++ decimal (before + 1)) text ∷ update_rows (before + 1) texts

abbrev pub pending_rows : Option (List ℕ) → List Row
pending_rows None = []
pending_rows (Some text) = row (codes "pending") text ∷ []

abbrev pub entry_rows : EntryList → List Row
entry_rows entries = update_rows 0 entries.committed ++ pending_rows entries.pending

-- the record as rows
abbrev pub rows_of : NodeRecord → List Row
rows_of r = row (codes "promised") (decimal r.promised) ∷ row (codes "installed") (decimal r.installed) ∷ row (codes "members") (set_text r.members) ∷ row (codes "valid") (set_text r.valid) ∷ entry_rows r.entries

-- an update that a row can hold: at most 65,535 bytes, without tab and newline
abbrev pub IsRowText : List ℕ → Type 0
IsRowText text = (length text ≤ 65535) × IsPlain text

-- the text is that of a record's table; the generation number counts the saves
pub record IsRecordText (text : List ℕ) : Type 0 where
  pub saves : ℕ
  pub kept : NodeRecord
  pub form : IsRecord kept
  pub table : IsTable text saves (rows_of kept)
