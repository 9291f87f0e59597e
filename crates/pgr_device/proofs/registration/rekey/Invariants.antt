use Rattle.std.proofs.Common.{◌≡◌, map, take, drop, ◌++◌}
use Rattle.pgr_device.specs.Registered.{rekeyed}
use Rattle.pgr_device.proofs.registration.rekey.Given as goal

abbrev pub invariant-loop-r : goal.invariant-loop-r
invariant-loop-r l = l.registrations ≡ map (rekeyed l.node l.key) (take l.r-index l.fn.registrations) ++ drop l.r-index l.fn.registrations
