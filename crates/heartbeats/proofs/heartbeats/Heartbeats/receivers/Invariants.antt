use Rattle.std.proofs.Common.{◌≡◌}
use Rattle.heartbeats.specs.Views.{is_receiver, set_where}
use Rattle.heartbeats.proofs.heartbeats.Heartbeats.receivers.Given as goal

abbrev pub invariant-loop-n : goal.invariant-loop-n
invariant-loop-n l = l.receivers ≡ set_where (is_receiver l.self l.configured) l.n
