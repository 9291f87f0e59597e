-- What a mounting and a save come to, by how their tests come out.
use Rattle.std.proofs.Common.{◌≡◌, Bool, false, ap}
use Rattle.std.specs.Prelude.{if◌then◌else◌, Option, Some, None}
use Rattle.local_disk.specs.declared.memory.Stop.{Stop}
use Rattle.record_disk.specs.declared.error.Loss.TheVariants.{Stopped}
use Rattle.record_disk.specs.Disks.{DiskState, crashed, stops_in_four, in_four}

pub in_four_done : (stop : Option Stop) (done stopped : DiskState) → stops_in_four stop ≡ false → in_four stop done stopped ≡ record { after = done; lost = None }
in_four_done stop done stopped none = ap (λ (b : Bool). if b then record { after = crashed stopped; lost = Some Stopped } else record { after = done; lost = None }) none
