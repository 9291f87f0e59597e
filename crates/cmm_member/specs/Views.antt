-- What the fields of a running node are seen as.
use Rattle.std.specs.Prelude.{ℕ, ◌<◌, ◌^◌, ◌-◌, Bool, false, Option, Some, None, slice_get, List, [], ◌∷◌, length, nat_eq, codes}
use Rattle.std.specs.Cmp.Lexicographic.{pointwise}
use Rattle.ccr_text.specs.declared.rows.Row.{Row}
use Rattle.ccr_commit.specs.Entries.{EntryList, with_next}
use Rattle.cmm_member.specs.Records.{NodeRecord}
use Rattle.cmm_member.specs.Nodes.{NodeState, Devices}
use Rattle.cmm_member.specs.declared.running.Record.{Record}
use Rattle.cmm_member.specs.declared.running.Running.{Running}

abbrev pub kept : Record → NodeRecord
kept r = record { promised = r.promised; installed = r.installed; members = r.members; valid = r.valid; entries = r.entries }

abbrev pub seen : Running → NodeState
seen s = record { me = s.me; first_valid = s.first_valid; saved = kept s.durable; session = s.session; joined = s.joined }

-- what an install decides of a running node
abbrev pub devices_of : Running → Devices
devices_of s = record { valid = s.durable.valid; joined = s.joined }

abbrev pub with_devices : Running → Devices → Running
with_devices s d = record s { durable = record s.durable { valid = d.valid }; joined = d.joined }

-- texts become entries one after another, the last one pending
abbrev pub all_next : EntryList → List (List ℕ) → EntryList
all_next entries [] = entries
all_next entries (text ∷ texts) = all_next (with_next entries text) texts

-- the row is that of a pending update
abbrev pub is_pending : Option Row → Bool
is_pending None = false
is_pending (Some last) = pointwise nat_eq last.key (codes "pending")

-- the last row is
abbrev pub ends_pending : List Row → Bool
ends_pending rows = is_pending (slice_get rows (length rows - 1))

-- the widths of numbers and sets in a record
pub record Widths (r : NodeRecord) : Type 0 where
  pub width : r.promised < 2 ^ 64
  pub nodes : r.members < 2 ^ 32
  pub devices : r.valid < 2 ^ 16
  pub count : length r.entries.committed < 2 ^ 64
