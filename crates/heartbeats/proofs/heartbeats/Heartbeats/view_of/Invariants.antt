use Rattle.std.proofs.Common.{◌≡◌}
use Rattle.heartbeats.specs.Views.{is_in_view, set_where}
use Rattle.heartbeats.proofs.heartbeats.Heartbeats.view_of.Given as goal

abbrev pub invariant-loop-n : goal.invariant-loop-n
invariant-loop-n l = l.view ≡ set_where (is_in_view l.self.me l.self.peers l.configured) l.n
