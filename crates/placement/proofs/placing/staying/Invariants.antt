use Rattle.std.proofs.Common.{◌≡◌, ◌&&◌, fold, filter, take}
use Rattle.cl_base.specs.Sets.{has, set_with}
use Rattle.placement.proofs.placing.staying.Given as goal

abbrev pub invariant-loop-n : goal.invariant-loop-n
invariant-loop-n l = l.nodes ≡ fold set_with 0 (filter (λ n. has l.members n && has l.previous n) (take l.n-index l.nodelist))
