-- A node's record on a simulated disk, and what each call makes of it.
use Rattle.std.specs.Prelude.{ℕ, ◌+◌, ◌-◌, ◌^◌, min, nat_le, ◌==◌, not, ◌&&◌, Bool, true, false, if◌then◌else◌, List, length, Option, Some, None}
use Rattle.std.specs.List.{list_all}
use Rattle.local_disk.specs.declared.memory.Choice.{Choice}
use Rattle.local_disk.specs.declared.memory.Stop.{Stop}
use Rattle.record_store.specs.declared.slot.Slot.{Slot}
use Rattle.record_store.specs.declared.slot.Slot.TheVariants.{First}
use Rattle.record_store.specs.Images.{other_slot}
use Rattle.record_store.specs.Store.{reaches}
use Rattle.ccr_commit.specs.Entries.{texts_of}
use Rattle.cmm_member.specs.Records.{NodeRecord, first_record}
use Rattle.cmm_member.specs.Lengths.{record_length}
use Rattle.record_disk.specs.declared.error.Loss.TheVariants.{Stopped, Fault}
use Rattle.record_disk.specs.Savings.{Saving}

pub record DiskState : Type 0 where
  -- the record that a boot would read
  pub kept : NodeRecord
  -- the number of saves that its table tells; 0 where no save wrote it
  pub saves : ℕ
  -- the slot that has it; a save is to the other one
  pub slot : Slot
  -- whether a save can be made
  pub mounted : Bool
  -- the stop that is armed: the calls left to it, that one included, and what it makes of what is not synced
  pub stop : Option Stop

abbrev pub empty_disk : ℕ → DiskState
empty_disk valid = record { kept = first_record valid; saves = 0; slot = First; mounted = false; stop = None }

abbrev pub armed : DiskState → ℕ → Choice → DiskState
armed d calls choice = record { kept = d.kept; saves = d.saves; slot = d.slot; mounted = d.mounted; stop = Some (record { calls = calls; choice = choice }) }

-- a mounting and a save take four calls each; whether the stop comes in one of them
abbrev pub stops_in_four : Option Stop → Bool
stops_in_four None = false
stops_in_four (Some stop) = nat_le stop.calls 4

-- the stop after them; one that came is over
abbrev pub after_four : Option Stop → Option Stop
after_four None = None
after_four (Some stop) = if nat_le stop.calls 4 then None else Some (record { calls = stop.calls - 4; choice = stop.choice })

-- the disk was crashed: it is to be mounted again
abbrev pub crashed : DiskState → DiskState
crashed d = record { kept = d.kept; saves = d.saves; slot = d.slot; mounted = false; stop = None }

-- what four calls come to: this where the stop comes in none of them, and that crashed where it comes in one
abbrev pub in_four : Option Stop → DiskState → DiskState → Saving DiskState
in_four stop done stopped = if stops_in_four stop then record { after = crashed stopped; lost = Some Stopped } else record { after = done; lost = None }

abbrev pub remounted : DiskState → DiskState
remounted d = record { kept = d.kept; saves = d.saves; slot = d.slot; mounted = true; stop = after_four d.stop }

abbrev pub mounting : DiskState → Saving DiskState
mounting d = in_four d.stop (remounted d) d

-- the number of the next save, up to the end of 64 bits
abbrev pub next_save : ℕ → ℕ
next_save saves = min (saves + 1) (2 ^ 64 - 1)

abbrev pub saved : DiskState → NodeRecord → DiskState
saved d r = record { kept = r; saves = next_save d.saves; slot = other_slot d.slot; mounted = true; stop = after_four d.stop }

-- whether a save to this slot stands after a stop in one of its calls
abbrev pub stands_after : Option Stop → Slot → Bool
stands_after None slot = false
stands_after (Some stop) slot = reaches stop.calls stop.choice slot

-- neither a tab nor a newline
abbrev pub is_plain_byte : ℕ → Bool
is_plain_byte b = not (b == 9) && not (b == 10)

-- an update that a row can hold
abbrev pub is_row_text : List ℕ → Bool
is_row_text text = nat_le (length text) 65535 && list_all is_plain_byte text

-- a record that a disk can hold as the table of this number
abbrev pub fits : ℕ → NodeRecord → Bool
fits saves r = nat_le r.installed r.promised && (list_all is_row_text (texts_of r.entries) && nat_le (record_length saves r) 65536)

-- a disk that is not mounted, and a record that fits no disk, are a fault, which changes nothing
abbrev pub saving : DiskState → NodeRecord → Saving DiskState
saving d r =
    if d.mounted && fits (next_save d.saves) r
    then in_four d.stop (saved d r) (if stands_after d.stop (other_slot d.slot) then saved d r else d)
    else record { after = d; lost = Some Fault }
