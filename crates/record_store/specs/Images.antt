-- What an image of the disk holds: a selector, and a text in each of two slots.
use Rattle.std.specs.Prelude.{◌≡◌, ℕ, ◌%◌, ◌≤◌, List, ◌++◌, length, take, drop, slice_index, if◌then◌else◌, ◌==◌}
use Rattle.std.specs.Int.{from_be_bytes, to_be_bytes, w32}
use Rattle.local_disk.specs.LocalDisk.{bytes_at, disk_bytes}
use Rattle.record_store.specs.declared.slot.Slot.{Slot}
use Rattle.record_store.specs.declared.slot.Slot.TheVariants.{First, Second}

-- where a slot begins
abbrev pub place_of : Slot → ℕ
place_of First = 16
place_of Second = 65556

abbrev pub other_slot : Slot → Slot
other_slot First = Second
other_slot Second = First

-- what a save writes to name a slot
abbrev pub selector_of : Slot → ℕ
selector_of First = 0
selector_of Second = 1

-- an even selector names the first slot, an odd one the second
abbrev pub slot_named : ℕ → Slot
slot_named selector = if selector % 2 == 0 then First else Second

-- the selector is byte 0
abbrev pub selected : List ℕ → Slot
selected image = slot_named (slice_index image 0)

-- a slot has four bytes of length and room for 65,536 bytes of text
abbrev pub slot_bytes : List ℕ → Slot → List ℕ
slot_bytes image slot = bytes_at (place_of slot) 65540 image

-- the length that a slot tells
abbrev pub length_in : List ℕ → ℕ
length_in slot = from_be_bytes w32 (take 4 slot)

-- the text in a slot; none where the length is 0
abbrev pub text_in : List ℕ → List ℕ
text_in slot = take (length_in slot) (drop 4 slot)

-- the text of an image: that in the slot that its selector names
abbrev pub text_of : List ℕ → List ℕ
text_of image = text_in (slot_bytes image (selected image))

-- how a slot spells a text
abbrev pub spelling : List ℕ → List ℕ
spelling text = to_be_bytes w32 (length text) ++ text

-- The image of an empty disk is one, and so is each that a store can leave, also by a stop: it has the size of a disk,
-- and the selected slot tells a length that a slot has room for.
pub record IsMountable (image : List ℕ) : Type 0 where
  pub size : length image ≡ disk_bytes
  pub fits : length_in (slot_bytes image (selected image)) ≤ 65536

-- mounting this image gives this text
pub record MountsTo (text image : List ℕ) : Type 0 where
  pub mountable : IsMountable image
  pub gives : text_of image ≡ text
