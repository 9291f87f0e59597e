use Rattle.record_store.proofs.Slots.{zero_mounts, zero_selects}
use Rattle.record_store.proofs.laws.empty_disk_mounts.Goals as goal

pub returns : goal.returns
returns c = record { mounts = zero_mounts; slot = zero_selects }
