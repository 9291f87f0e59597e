-- What a store holds, and how the disk stands to it.
use Rattle.std.specs.Prelude.{◌≡◌, ◌⊎◌, ℕ, List, Bool, true, false, ◌&&◌, nat_lt, if◌then◌else◌, Option, Some, None}
use Rattle.local_disk.specs.LocalDisk.{Only}
use Rattle.local_disk.specs.declared.memory.Choice.{Choice}
use Rattle.local_disk.specs.declared.memory.Choice.TheVariants.{Old, New, Zero}
use Rattle.record_store.specs.declared.slot.Slot.{Slot}
use Rattle.record_store.specs.declared.slot.Slot.TheVariants.{First, Second}
use Rattle.record_store.specs.Images.{selected, other_slot, IsMountable, MountsTo}

pub record Held : Type 0 where
  pub slot : Slot
  pub text : List ℕ

-- each image that a crash may leave can be mounted
abbrev pub Mountable : (List ℕ → Type 0) → Type 0
Mountable images = (image : List ℕ) → images image → IsMountable image

-- each image that a crash may leave mounts to this text
abbrev pub EachMountsTo : List ℕ → (List ℕ → Type 0) → Type 0
EachMountsTo text images = (image : List ℕ) → images image → MountsTo text image

-- each image that a crash may leave mounts to the old text or to the new one
abbrev pub EachMountsToEither : List ℕ → List ℕ → (List ℕ → Type 0) → Type 0
EachMountsToEither old new images = (image : List ℕ) → images image → MountsTo old image ⊎ MountsTo new image

-- mounting this image gives what the store holds
pub record Gives (held : Held) (image : List ℕ) : Type 0 where
  pub slot : selected image ≡ held.slot
  pub mounts : MountsTo held.text image

-- what it holds after a save
abbrev pub replaced : Held → List ℕ → Held
replaced held text = record { slot = other_slot held.slot; text = text }

-- Whether the selector that names this slot stands after a crash that leaves it by a choice: it was not synced, the old
-- one names the other slot, and zero names the first.
abbrev pub names : Choice → Slot → Bool
names Old slot = false
names New slot = true
names Zero First = true
names Zero Second = false

-- whether a save to this slot stands after a stop in this of its calls, from 1: the third writes the selector
abbrev pub reaches : ℕ → Choice → Slot → Bool
reaches calls choice slot = nat_lt 2 calls && names choice slot

-- what a stop in one of the four calls of a save leaves, of a disk that tells the calls left before it
abbrev pub LeavesBy : Option ℕ → Choice → Held → Held → List ℕ → Type 0
LeavesBy None choice old new image = Unit {0}
LeavesBy (Some calls) choice old new image = Gives (if reaches calls choice new.slot then new else old) image

-- The disk stands as the store left it: a crash leaves what a read gives, and that selects the slot of the store and
-- mounts to its text.
pub record Stands (reads : List ℕ) (images : List ℕ → Type 0) (held : Held) : Type 0 where
  pub synced : Only reads images
  pub slot : selected reads ≡ held.slot
  pub mounts : MountsTo held.text reads
