use Rattle.std.proofs.Common.{◌≡◌, ◌≤◌, length, take}
use Rattle.std.specs.List.{All}
use Rattle.std.specs.Result.{result_ok}
use Rattle.placement.specs.Eligibility.{eligibility}
use Rattle.placement.specs.Scores.{score_at}
use Rattle.placement.proofs.goals.scores.Given as goal

abbrev pub invariant-loop-n : goal.invariant-loop-n
invariant-loop-n l = record {
  places : length l.scores ≡ 32;
  low : All (λ n. 1 ≤ n) (take l.n-index l.own.nodelist);
  scores : All (λ n. score_at l.scores n ≡ result_ok (eligibility l.g l.limits l.view l.name l.own n)) (take l.n-index l.own.nodelist);
}
