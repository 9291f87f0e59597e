use Rattle.std.proofs.Common.{◌≡◌, ◌&&◌, is_some, fold, filter, take}
use Rattle.cl_base.specs.Sets.{has, set_with}
use Rattle.placement.specs.Scores.{score_at}
use Rattle.placement.proofs.placing.kept.Given as goal

abbrev pub invariant-loop-n : goal.invariant-loop-n
invariant-loop-n l = l.nodes ≡ fold set_with 0 (filter (λ n. has l.previous n && is_some (score_at l.scores n)) (take l.n-index l.nodelist))
