use Rattle.std.proofs.Common.{◌≡◌, take}
use Rattle.pgr_device.specs.Registered.{keys_of}
use Rattle.pgr_device.proofs.registration.keys_of.Given as goal

abbrev pub invariant-loop-registration : goal.invariant-loop-registration
invariant-loop-registration l = l.keys ≡ keys_of (take l.registration-index l.registrations)
