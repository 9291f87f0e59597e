use Rattle.std.proofs.Common.{◌≡◌, None, fold, take}
use Rattle.placement.specs.Goals.{considered}
use Rattle.placement.specs.Scores.{score_at}
use Rattle.placement.proofs.placing.best.Given as goal

abbrev pub invariant-loop-n : goal.invariant-loop-n
invariant-loop-n l = l.best ≡ fold (considered (score_at l.scores) l.nodes) None (take l.n-index l.nodelist)
