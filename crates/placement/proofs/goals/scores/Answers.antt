use Rattle.std.proofs.Common.{◌≡◌, ◌≤◌, ◌-◌, ℕ, List, get_or, length, ◌∙◌, sym, ap, arith, length-set}
use Rattle.std.specs.Result.{result_ok}
use Rattle.placement.specs.Eligibility.{eligibility}
use Rattle.placement.proofs.Picks.{low_more, scores_more, scores_done}
use Rattle.placement.proofs.goals.scores.Goals as goal

pub loop-n-preserved : goal.loop-n-preserved
loop-n-preserved c =
    let nodes = c.args.own.now.nodelist in
    let i = c.loop-n.n-index in
    let n = c.n-item.result in
    let lent : length c.items-n-items.result.now ≡ length nodes = ap length c.items-n-items.ensures.value in
    let is : n ≡ get_or nodes i n = c.n-item.is ∙ ap (λ (xs : List ℕ). get_or xs i n) c.items-n-items.ensures.value in
    record {
      places = length-set c.loop-n.scores (c.number.result - 1) c.ok.result ∙ c.loop-n.invariant.places;
      low = low_more nodes i n (omega arith) is (omega arith) c.loop-n.invariant.low;
      scores = scores_more (λ m. result_ok (eligibility c.args.g.now c.args.limits.now c.args.view.now c.args.name.now c.args.own.now m)) c.loop-n.scores nodes i n c.number.result c.ok.result
          (omega arith) is c.number.ensures.value (c.ok.ensures.value ∙ ap result_ok c.eligibility_at.ensures) (omega arith) (omega arith) c.loop-n.invariant.low c.loop-n.invariant.scores;
    }

pub returns : goal.returns
returns c =
    let lent : length c.items-n-items.result.now ≡ length c.args.own.now.nodelist = ap length c.items-n-items.ensures.value in
    scores_done (λ m. result_ok (eligibility c.args.g.now c.args.limits.now c.args.view.now c.args.name.now c.args.own.now m)) c.loop-n.scores c.args.own.now.nodelist c.loop-n.n-index
    (omega arith) c.loop-n.invariant.scores
