use Rattle.std.proofs.Common.{◌≡◌, ◌≤◌, length}
use Rattle.pgr_device.specs.Device.{first_keys}
use Rattle.pgr_device.proofs.registration.first_keys.Given as goal

abbrev pub invariant-loop-place : goal.invariant-loop-place
invariant-loop-place l = record { are : l.registrations.items ≡ first_keys l.paths l.nodes l.cluster l.place; few : length l.registrations.items ≤ l.place }
