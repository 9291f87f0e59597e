-- What always holds of the fields of a disk in memory.
use Rattle.std.specs.Prelude.{◌≡◌, length}
use Rattle.local_disk.specs.declared.memory.MemDisk.TheInside.{Inside}
use Rattle.local_disk.specs.LocalDisk.{disk_bytes}
use Rattle.local_disk.specs.Memory.{IsImage, IsWithin}

pub record IsKept (d : Inside) : Type 0 where
  pub synced : length d.synced.items ≡ disk_bytes
  pub reads : length d.reads.items ≡ disk_bytes
  pub unsynced : length d.unsynced.items ≡ disk_bytes
  pub span : IsWithin d.unsynced.items d.low d.high
  pub same : IsImage d.unsynced.items d.reads.items d.synced.items
