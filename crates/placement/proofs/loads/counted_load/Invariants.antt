use Rattle.std.proofs.Common.{◌≡◌, ◌≤◌, ◌+◌, ◌-◌, ◌^◌, min}
use Rattle.load_limits.specs.Loads.{load}
use Rattle.placement.specs.Loads.{brought_at}
use Rattle.placement.proofs.Sums.{by_place, left}
use Rattle.placement.proofs.loads.counted_load.Given as goal

abbrev pub invariant-loop-place : goal.invariant-loop-place
invariant-loop-place l = record {
  most : l.load ≤ 2 ^ 63 - 1;
  load : min (l.load + left l.limit (brought_at l.g l.view l.n l.own) l.view.goals l.place) (2 ^ 63 - 1) ≡ load l.limit (by_place (brought_at l.g l.view l.n l.own) 0 l.view.goals);
}
