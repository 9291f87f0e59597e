use Rattle.std.proofs.Common.{◌≡◌}
use Rattle.placement.specs.Goals.{added}
use Rattle.placement.specs.Scores.{score_at}
use Rattle.placement.proofs.placing.add_best.Given as goal

abbrev pub invariant-loop : goal.invariant-loop
invariant-loop l = l.nodes ≡ added (score_at l.scores) l.nodelist l.fn.kept l.counter
