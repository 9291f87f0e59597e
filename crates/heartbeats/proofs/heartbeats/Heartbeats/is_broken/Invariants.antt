use Rattle.std.proofs.Common.{◌≡◌, false}
use Rattle.heartbeats.specs.Due.{breaks, some_to}
use Rattle.heartbeats.proofs.heartbeats.Heartbeats.is_broken.Given as goal

abbrev pub invariant-loop-n : goal.invariant-loop-n
invariant-loop-n l = some_to (breaks l.self l.m) l.n ≡ false
