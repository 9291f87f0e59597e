use Rattle.std.proofs.Common.{◌≡◌}
use Rattle.heartbeats.specs.Views.{set_where}
use Rattle.quorum_votes.specs.Votes.{is_configured}
use Rattle.node.proofs.configured.configured_under.Given as goal

abbrev pub invariant-loop-n : goal.invariant-loop-n
invariant-loop-n l = l.nodes ≡ set_where (is_configured l.votes) l.n
