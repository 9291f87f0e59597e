-- What the text of a disk's image stands for, and how a disk in memory is left between the calls.
use Rattle.std.specs.Prelude.{◌≡◌, ◌≢◌, ℕ, List, [], Option, Some, None}
use Rattle.ccr_text.specs.TableText.{IsTable}
use Rattle.local_disk.specs.LocalDisk.{Only}
use Rattle.local_disk.specs.Memory.{State, IsImage}
use Rattle.record_store.specs.Images.{IsMountable}
use Rattle.record_store.specs.Store.{Held, Stands}
use Rattle.cmm_member.specs.Records.{NodeRecord, IsRecord, first_record, rows_of}

-- the text is that of this record's table, which tells this number of saves
pub record IsTextFor (text : List ℕ) (saves : ℕ) (r : NodeRecord) : Type 0 where
  pub form : IsRecord r
  pub table : IsTable text saves (rows_of r)

-- a record as it is before the first save
pub record IsFirst (saves : ℕ) (r : NodeRecord) : Type 0 where
  pub none : saves ≡ 0
  pub is : r ≡ first_record r.valid

-- the text stands for this record and number of saves: no text for the first one, which no save wrote
pub record StandsFor (text : List ℕ) (saves : ℕ) (r : NodeRecord) : Type 0 where
  pub first : text ≡ [] → IsFirst saves r
  pub table : text ≢ [] → IsTextFor text saves r

-- the images that a crash may leave
abbrev pub images : State → List ℕ → Type 0
images disk = IsImage disk.unsynced disk.reads

-- a crash leaves what a read gives, and that can be mounted
pub record IsSettled (disk : State) : Type 0 where
  pub synced : Only disk.reads (images disk)
  pub mountable : IsMountable disk.reads

-- the disk stands as the store left it, if there is one
abbrev pub StandsIf : State → Option Held → Type 0
StandsIf disk None = Unit {0}
StandsIf disk (Some held) = Stands disk.reads (images disk) held
