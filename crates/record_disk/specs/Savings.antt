-- What a call of a record's disk comes to.
use Rattle.std.specs.Prelude.{◌≡◌, Option, Some}
use Rattle.record_disk.specs.declared.error.Loss.{Loss}
use Rattle.record_disk.specs.declared.error.DiskError.{DiskError}
use Rattle.record_disk.specs.declared.error.DiskError.TheVariants.{Lost, NoMemory}

-- what a save or a mounting comes to, where memory suffices
pub record Saving (K : Type 0) : Type 0 where
  -- the disk after it
  pub after : K
  -- how the record was lost, if it was
  pub lost : Option Loss

-- a call that failed so came to this; where memory ran out, nothing is said
abbrev pub IsLostBy : {K : Type 0} → Saving K → K → DiskError → Type 0
IsLostBy saving new (Lost loss) = (saving.lost ≡ Some loss) × (new ≡ saving.after)
IsLostBy saving new NoMemory = Unit {0}
