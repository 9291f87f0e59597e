use Rattle.std.proofs.Common.{◌≡◌, take}
use Rattle.config_cache.proofs.same_header.has_same_devices.Given as goal

abbrev pub invariant-loop-place : goal.invariant-loop-place
invariant-loop-place l = take l.place l.a ≡ take l.place l.b
