use Rattle.std.proofs.Common.{◌≡◌, ◌++◌, drop, map, take}
use Rattle.std.specs.List.{All}
use Rattle.sent_orders.specs.Ages.{IsYoung}
use Rattle.sent_orders.specs.Ticks.{age_after}
use Rattle.sent_orders.proofs.orders.grow.Given as goal

abbrev pub invariant-loop-age : goal.invariant-loop-age
invariant-loop-age l = record {
  grown : l.ages ≡ map age_after (take l.age-index l.fn.ages) ++ drop l.age-index l.fn.ages;
  young : All IsYoung l.ages;
}
