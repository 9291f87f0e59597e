use Rattle.std.proofs.Common.{◌≡◌, ◌≤◌, ◌+◌, ◌-◌, ◌^◌, min}
use Rattle.load_limits.specs.Loads.{load}
use Rattle.placement.proofs.Sums.{by_place, left}
use Rattle.sequencer.specs.Loads.{brought}
use Rattle.sequencer.proofs.loads.others_load.Given as goal

abbrev pub invariant-loop-place : goal.invariant-loop-place
invariant-loop-place l = record {
  most : l.load ≤ 2 ^ 63 - 1;
  load : min (l.load + left l.limit (λ place e. brought l.g l.view l.own l.n e) l.g.groups l.place) (2 ^ 63 - 1) ≡ load l.limit (by_place (λ place e. brought l.g l.view l.own l.n e) 0 l.g.groups);
}
