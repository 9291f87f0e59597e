use Rattle.std.proofs.Common.{◌≡◌, take}
use Rattle.std.specs.List.{filter_map}
use Rattle.cmm_attempt.specs.Seizings.{reading_of}
use Rattle.cmm_attempt.proofs.seizing.readings_of.Given as goal

abbrev pub invariant-loop-a : goal.invariant-loop-a
invariant-loop-a l = l.readings.items ≡ filter_map (reading_of l.devices) (take l.a-index l.attached)
