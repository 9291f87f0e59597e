-- What a disk in memory holds, and what each of its calls makes of it.
use Rattle.std.specs.Prelude.{◌≡◌, ℕ, ◌+◌, ◌-◌, ◌^◌, ◌≤◌, ◌<◌, min, List, length, get_or, replicate, map, Bool, true, false, Option, Some, None, if◌then◌else◌, ◌==◌, nat_lt}
use Rattle.std.specs.List.{zip}
use Rattle.local_disk.specs.declared.memory.Choice.{Choice}
use Rattle.local_disk.specs.declared.memory.Choice.TheVariants.{Old, New, Zero}
use Rattle.local_disk.specs.declared.memory.Stop.{Stop}
use Rattle.local_disk.specs.LocalDisk.{disk_bytes, overwritten}

pub record State : Type 0 where
  pub synced : List ℕ  -- each byte as it was last synced
  pub reads : List ℕ  -- each byte as a read gives it
  pub unsynced : List Bool  -- whether it was written since the last sync
  pub stop : Option Stop  -- a stop that is armed, or that has come
  pub faults : ℕ  -- how often a call failed

abbrev pub empty_disk : State
empty_disk = record { synced = replicate disk_bytes 0; reads = replicate disk_bytes 0; unsynced = replicate disk_bytes false; stop = None; faults = 0 }

-- An image that a crash may leave: any bytes at the marked places, and what a read gives at the others.
pub record IsImage (marks : List Bool) (reads image : List ℕ) : Type 0 where
  pub size : length image ≡ length reads
  pub kept : (k : ℕ) → get_or marks k true ≡ false → get_or image k 0 ≡ get_or reads k 0

-- every marked place lies from low up to high
pub record IsWithin (marks : List Bool) (low high : ℕ) : Type 0 where
  pub ordered : low ≤ high
  pub fits : high ≤ length marks
  pub below : (k : ℕ) → k < low → get_or marks k true ≡ false
  pub above : (k : ℕ) → high ≤ k → k < length marks → get_or marks k true ≡ false

abbrev pub calls_of : Option Stop → Option ℕ
calls_of None = None
calls_of (Some stop) = Some stop.calls

-- a stop has come where no call is left before it
abbrev pub has_stopped : Option Stop → Bool
has_stopped None = false
has_stopped (Some stop) = stop.calls == 0

-- a call now succeeds: it does not take the last call that was left
abbrev pub passes : Option Stop → Bool
passes None = true
passes (Some stop) = nat_lt 1 stop.calls

-- a call takes one from those left
abbrev pub next_stop : Option Stop → Option Stop
next_stop None = None
next_stop (Some stop) = Some (record { calls = stop.calls - 1; choice = stop.choice })

-- a call that fails counts as a fault, up to the end of 64 bits
abbrev pub next_faults : Option Stop → ℕ → ℕ
next_faults None faults = faults
next_faults (Some stop) faults = if nat_lt 1 stop.calls then faults else min (faults + 1) (2 ^ 64 - 1)

abbrev pub counted : State → State
counted d = record { synced = d.synced; reads = d.reads; unsynced = d.unsynced; stop = next_stop d.stop; faults = next_faults d.stop d.faults }

-- the bytes are there for a read, and marked
abbrev pub with_range : State → ℕ → List ℕ → State
with_range d place bytes = record {
  synced = d.synced;
  reads = overwritten d.reads place bytes;
  unsynced = overwritten d.unsynced place (replicate (length bytes) true);
  stop = d.stop;
  faults = d.faults;
}

-- A write puts its bytes whether it succeeds or is the call that stops; after a stop it puts none.
abbrev pub written : State → ℕ → List ℕ → State
written d place bytes = counted (if has_stopped d.stop then d else with_range d place bytes)

-- what is read is synced
abbrev pub settled : State → State
settled d = record { synced = d.reads; reads = d.reads; unsynced = replicate disk_bytes false; stop = d.stop; faults = d.faults }

-- a sync that fails syncs nothing
abbrev pub after_sync : State → State
after_sync d = if passes d.stop then settled (counted d) else counted d

abbrev pub armed : State → ℕ → Choice → State
armed d calls choice = record { synced = d.synced; reads = d.reads; unsynced = d.unsynced; stop = Some (record { calls = calls; choice = choice }); faults = d.faults }

-- zeros at the marked places
abbrev pub zeroed : List Bool → List ℕ → List ℕ
zeroed marks bytes = map (λ p. if p.0 then 0 else p.1) (zip marks bytes)

-- what a crash leaves by a choice
abbrev pub left_by : Choice → List Bool → List ℕ → List ℕ → List ℕ
left_by Old marks synced reads = synced
left_by New marks synced reads = reads
left_by Zero marks synced reads = zeroed marks reads

-- the choice of the stop; the synced bytes stay where none is armed
abbrev pub choice_of : Option Stop → Choice
choice_of None = Old
choice_of (Some stop) = stop.choice

-- an image with what a choice makes of bytes that are written to it from a place on, and not synced
abbrev pub spoiled : Choice → ℕ → List ℕ → List ℕ → List ℕ
spoiled Old place bytes image = image
spoiled New place bytes image = overwritten image place bytes
spoiled Zero place bytes image = overwritten image place (replicate (length bytes) 0)

-- What a write makes of the image that a crash would leave, of a disk that tells the calls left before its stop: nothing
-- after the stop.
abbrev pub Spoils : Option ℕ → Choice → ℕ → List ℕ → List ℕ → List ℕ → Type 0
Spoils None choice place bytes old new = Unit {0}
Spoils (Some calls) choice place bytes old new = new ≡ (if calls == 0 then old else spoiled choice place bytes old)

-- a stop that has come is over
abbrev pub still_armed : Option Stop → Option Stop
still_armed None = None
still_armed (Some stop) = if stop.calls == 0 then None else Some stop

-- the image that a crash leaves now
abbrev pub left_now : State → List ℕ
left_now d = left_by (choice_of d.stop) d.unsynced d.synced d.reads

abbrev pub crashed : State → State
crashed d = record {
  synced = left_now d;
  reads = left_now d;
  unsynced = replicate disk_bytes false;
  stop = still_armed d.stop;
  faults = d.faults;
}
