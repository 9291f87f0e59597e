-- The refusal of an update that the record has no room for.
use Rattle.std.specs.Prelude.{ℕ, ◌+◌, ◌*◌, ◌-◌, ◌^◌, min, nat_lt, List, length, Option, Some, None, if◌then◌else◌}
use Rattle.std.specs.Fmt.{decimal}
use Rattle.cl_base.specs.declared.refusal.Refusal.{Refusal}
use Rattle.cl_base.specs.declared.refusal.Refusal.TheVariants.{RecordFull}
use Rattle.rg_props.specs.Table.{GroupTable}
use Rattle.ccr_tables.specs.declared.generations.Generations.{Generations}
use Rattle.ccr_tables.specs.declared.update.Update.{Update}
use Rattle.ccr_tables.specs.Changes.{changed}
use Rattle.ccr_tables.specs.State.{ConfigState}
use Rattle.update_words.specs.Words.{words_of}

-- the most bytes that a record may have
abbrev pub most_bytes : ℕ
most_bytes = 65536

-- how many updates the configuration has: each changed one table
abbrev pub updates_in : Generations → ℕ
updates_in g = g.infrastructure + g.types + g.groups + g.resources + g.addresses

-- the bytes of an update's row: `update.` and its place, a tab, its words, a newline
abbrev pub row_length : ℕ → List ℕ → ℕ
row_length place words = 9 + length (decimal place) + length words

-- what reports of so many groups and resources may add
abbrev pub report_length : GroupTable → ℕ
report_length t = 64 * length t.groups + 37 * length t.resources

-- the record with the update's row, which comes behind those that are there, and what is added for
-- the groups and resources that are then configured
abbrev pub length_with : ConfigState → ℕ → Update → ℕ
length_with s before u =
    before + row_length (updates_in s.generations + 1) (words_of u)
    + report_length (changed s u).groups

-- 24: that is longer than a record may be; a length above 2^64 - 1 is told as that
abbrev pub record_full : ConfigState → ℕ → Update → Option Refusal
record_full s before u =
    if nat_lt most_bytes (length_with s before u)
    then Some (RecordFull (min (length_with s before u) (2 ^ 64 - 1))) else None
